use Rattle.std.proofs.Common.{◌≡◌, ℕ, ◌+◌, ◌<◌, ◌∙◌, inl, inr, List, arith, ap, sym, subst, length, take, drop, slice_index, encode_utf8_all}
use Rattle.std.proofs.lemmas.List.{length-append, take-append-drop, take_all}
use Rattle.std.proofs.lemmas.Str.{encodes-append}
use Rattle.encoding_definitions.specs.Prefixes.{WritesPrefix}
use Rattle.std.proofs.lemmas.Bool.{cases_lt}
use Rattle.encoding_definitions.proofs.PrefixesLemmas.{WritesPrefix-length}
use Rattle.encoding_kernels.proofs.OverwriteLemmas.{ascii_left}
use Rattle.encoding_text.proofs.Latin1ConversionLemmas.{latin1_bytes_two, latin1_fits_all, latin1_fits_stop, latin1_turn, had_prefix}
use Rattle.encoding_text.proofs.WholePrefixesLemmas.{other_after}
use Rattle.encoding_text.proofs.mem.latin1.convert_latin1_turns.Goals as goal
use Rattle.encoding_text.proofs.mem.latin1.convert_latin1_turns.Goals.{then-read-src-via-then-read-src}
use Rattle.encoding_text.proofs.mem.latin1.convert_latin1_turns.Goals.{then-read-src-via-else-read-src+then-dst-written-lt-HIGH_LENGTH}
use Rattle.encoding_text.proofs.OneResultLemmas.{length-encode-some}

pub loop-read-init : goal.loop-read-init
loop-read-init c = record {
  within = c.requires.read.0;
  onward = omega arith;
  written = had_prefix _ _ _ c.requires.written.0 c.requires.written.1;
}

pub loop-read-preserved : goal.loop-read-preserved
loop-read-preserved c = record {
  within = omega (arith, c.convert_latin1_blocks-bytes.ensures.within);
  onward = omega (arith, c.loop-read.invariant.onward);
  written = latin1_turn c.args.src.now
      (λ i. omega (arith, c.type_inv.src i)) c.loop-read.read c.loop-read.written c.copy_ascii-prefix.result _ _ _ c.loop-read.invariant.written
      c.copy_ascii-prefix.ensures.ascii c.copy_ascii-prefix.ensures.copied (omega (arith, c.copy_ascii-prefix.ensures.within, c.if-read-src.false))
      (omega (arith, c.if-dst-written-lt-HIGH_LENGTH.false)) c.copy_ascii-prefix.ensures.stops
      _ _ _ c.convert_latin1_blocks-bytes.ensures.written;
}

unchanged : {old new other out : List ℕ} {n : ℕ} → other ≡ new → WritesPrefix old new n out → WritesPrefix old other n out
unchanged {old} {new} {other} {out} {n} e w = subst (λ xs. WritesPrefix old xs n out) (sym e) w

pub loop-read-preserved-in-None : goal.loop-read-preserved-in-None
loop-read-preserved-in-None c = record {
  within = omega (arith, c.convert_latin1_blocks-bytes.ensures.within);
  onward = omega (arith, c.loop-read.invariant.onward);
  written = unchanged c.in-None.ensures.full
      (latin1_turn c.args.src.now
      (λ i. omega (arith, c.type_inv.src i)) c.loop-read.read c.loop-read.written c.copy_ascii-prefix.result _ _ _ c.loop-read.invariant.written
      c.copy_ascii-prefix.ensures.ascii c.copy_ascii-prefix.ensures.copied (omega (arith, c.copy_ascii-prefix.ensures.within, c.if-read-src.false))
      (omega (arith, c.if-dst-written-lt-HIGH_LENGTH.false)) c.copy_ascii-prefix.ensures.stops
      _ _ _ c.convert_latin1_blocks-bytes.ensures.written);
}

pub finish_latin1-requires-clause-counted : goal.finish_latin1-requires-clause-counted
finish_latin1-requires-clause-counted c =
    let w =
    latin1_turn c.args.src.now
    (λ i. omega (arith, c.type_inv.src i)) c.loop-read.read c.loop-read.written c.copy_ascii-prefix.result _ _ _ c.loop-read.invariant.written
    c.copy_ascii-prefix.ensures.ascii c.copy_ascii-prefix.ensures.copied (omega (arith, c.copy_ascii-prefix.ensures.within, c.if-read-src.false))
    (omega (arith, c.if-dst-written-lt-HIGH_LENGTH.false)) c.copy_ascii-prefix.ensures.stops
    _ _ _ c.convert_latin1_blocks-bytes.ensures.written in
    (w.count, omega (arith, w.fits, WritesPrefix-length _ _ _ _ w))

-- all bytes were written
whole : (src : List ℕ) → take (length src) src ≡ src
whole src = take_all (length src) src (omega arith)

pub returns-in-Some-clause-written : goal.returns-in-Some-clause-written
returns-in-Some-clause-written c = rw (whole c.args.src.now) (c.in-Some.ensures.finished c.args.dst.now
    (latin1_turn c.args.src.now
    (λ i. omega (arith, c.type_inv.src i)) c.loop-read.read c.loop-read.written c.copy_ascii-prefix.result _ _ _ c.loop-read.invariant.written
    c.copy_ascii-prefix.ensures.ascii c.copy_ascii-prefix.ensures.copied (omega (arith, c.copy_ascii-prefix.ensures.within, c.if-read-src.false))
    (omega (arith, c.if-dst-written-lt-HIGH_LENGTH.false)) c.copy_ascii-prefix.ensures.stops
    _ _ _ c.convert_latin1_blocks-bytes.ensures.written))

pub returns-in-Some-clause-prefix : goal.returns-in-Some-clause-prefix
returns-in-Some-clause-prefix c = let w = returns-in-Some-clause-written c in
    latin1_fits_all c.args.src.now (length c.args.src.now) _ (omega arith) (omega arith) (omega (arith, w.count, w.fits))

pub returns-in-Some-clause-onward : goal.returns-in-Some-clause-onward
returns-in-Some-clause-onward c =
    let src = c.args.src.now in
    let n = c.args.from in
    let w = returns-in-Some-clause-written c in
    omega (
      arith,
      c.requires.read.1,
      w.count,
      ap (λ xs. length (encode_utf8_all xs)) (whole src),
      ap length (sym (encodes-append (take n src) (drop n src)) ∙ ap encode_utf8_all (take-append-drop n src)),
      length-append (encode_utf8_all (take n src)) (encode_utf8_all (drop n src)),
    )

pub returns-after-loop-read-clause-prefix : goal.returns-after-loop-read-clause-prefix
returns-after-loop-read-clause-prefix c =
    let w = c.loop-read.invariant.written in
    latin1_fits_all c.args.src.now c.loop-read.read _ c.loop-read.invariant.within c.loop-read-test.false (omega (arith, w.count, w.fits))

pub returns-then-read-src-clause-written : goal.returns-then-read-src-clause-written
returns-then-read-src-clause-written c =
    ascii_left c.args.src.now c.loop-read.read c.copy_ascii-prefix.result c.loop-read.invariant.written c.copy_ascii-prefix.ensures.ascii
    c.copy_ascii-prefix.ensures.copied

pub returns-then-read-src-clause-prefix : goal.returns-then-read-src-clause-prefix
returns-then-read-src-clause-prefix c =
    let xs = c.args.src.now in
    let at = c.loop-read.read in
    let to = c.loop-read.written in
    let n = c.copy_ascii-prefix.result in
    let call = c.copy_ascii-prefix.ensures in
    let w = ascii_left xs at n c.loop-read.invariant.written call.ascii call.copied in
    let long = WritesPrefix-length _ _ _ _ c.loop-read.invariant.written in
    elim c.then-read-src.branch [
      | then-read-src-via-then-read-src r ↦ latin1_fits_all xs (at + n) _ (omega (arith, r.if-read-src.true)) (omega (arith, r.if-read-src.true))
          (omega (arith, w.count, w.fits))
      | then-read-src-via-else-read-src+then-dst-written-lt-HIGH_LENGTH r ↦ elim (cases_lt (to + n) (length c.args.dst.now)) [
        | inl p ↦
            let inside : at + n < length xs = omega (arith, call.within, r.if-read-src.false) in
            let other = other_after xs _ at to n inside (omega (arith, long)) call.stops in
            let two = latin1_bytes_two (slice_index xs (at + n)) other (omega (arith, c.type_inv.src (at + n))) in
            latin1_fits_stop xs (at + n) _ inside (omega (arith, w.count, w.fits))
            (omega (arith, w.count, WritesPrefix-length _ _ _ _ w, r.if-dst-written-lt-HIGH_LENGTH.true, ap length two))
        | inr p ↦ latin1_fits_stop xs (at + n) _ (omega (arith, call.within, r.if-read-src.false)) (omega (arith, w.count, w.fits))
            (omega (arith, w.count, length-encode-some (slice_index xs (at + n))))
      ]
    ]
