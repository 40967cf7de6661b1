use Rattle.std.proofs.Common.{ℕ, ◌≡◌, ◌-◌, ◌≤◌, ◌<◌, List, inl, inr, length, take, ap, sym, subst, ◌∙◌, arith}
use Rattle.std.specs.Str.{IsAscii}
use Rattle.std.proofs.lemmas.Bool.{cases_lt}
use Rattle.std.proofs.lemmas.List.{length-take, take_all, take_rest, take-take}
use Rattle.encoding_definitions.specs.Prefixes.{IsLongestPrefix, WritesPrefix}
use Rattle.encoding_text.proofs.WholePrefixesLemmas.{fitting_ascii, fitting_prefix, fitting_copied, prefix_on, copied_on}
use Rattle.encoding_text.proofs.ascii.prefixes.copy_ascii_prefix.Goals as goal
use Rattle.encoding_text.proofs.ascii.prefixes.copy_ascii_prefix.Goals.{else-fitting-le-TWO_BLOCKS-via-then-fitting-le-TWO_BLOCKS+else-write_short_ascii}
use Rattle.encoding_text.proofs.ascii.prefixes.copy_ascii_prefix.Goals.{else-fitting-le-TWO_BLOCKS-via-else-fitting-le-TWO_BLOCKS}

-- the first m bytes are those that fit, in a destination that is unchanged so far
module _ (src old mid : List ℕ) (m : ℕ) (least : (m ≤ length src) × (m ≤ length old) × (m < length src → m ≡ length old)) (same : mid ≡ old) where
  fit : length (take m src) ≤ length mid
  fit = omega (arith, length-take m src, least.1, ap length same)

  fitting : take m src ≡ take (length old) src
  fitting = elim (cases_lt m (length src)) [
    | inl l ↦ ap (λ k. take k src) (least.2 l)
    | inr b ↦ take_all m src b ∙ sym (take_all (length old) src (omega (arith, least.0, least.1, b)))
  ]

  prefix_fits : (n : ℕ) → IsLongestPrefix IsAscii (take m src) n → IsLongestPrefix IsAscii (take (length old) src) n
  prefix_fits n prefix = subst (λ xs. IsLongestPrefix IsAscii xs n) fitting prefix

  copy_fits : (new : List ℕ) (n : ℕ) → n ≤ length (take m src) → WritesPrefix mid new n (take n (take m src)) → WritesPrefix old new n (take n src)
  copy_fits new n short copied =
      subst (λ xs. WritesPrefix old new n xs) (take-take n m src (omega (arith, short, length-take m src)))
      (subst (λ xs. WritesPrefix xs new n (take n (take m src))) same copied)

pub returns-in-Some-clause-prefix : goal.returns-in-Some-clause-prefix
returns-in-Some-clause-prefix c =
    let src = c.args.src.now in
    let old = c.args.dst.now in
    let mid = c.else-fitting-le-TWO_BLOCKS.dst in
    let m = c.min.result in
    let least : (m ≤ length src) × (m ≤ length old) × (m < length src → m ≡ length old) =
    (omega (arith, c.min.ensures), omega (arith, c.min.ensures), λ l. omega (arith, c.min.ensures, l)) in
    let same : mid ≡ old = elim c.else-fitting-le-TWO_BLOCKS.branch [
      | else-fitting-le-TWO_BLOCKS-via-then-fitting-le-TWO_BLOCKS+else-write_short_ascii w ↦ w.dst-is
          ∙ w.write_short_ascii.ensures.2 w.if-write_short_ascii.false
      | else-fitting-le-TWO_BLOCKS-via-else-fitting-le-TWO_BLOCKS w ↦ w.dst-is
    ] in
    prefix_fits src old mid m least same _
    (fitting_prefix (take m src) mid c.length_of_strides-whole.result c.length_of_strides-whole.ensures.within.0 (fit src old mid m least same)
    c.in-Some.field-0-0 c.in-Some.place c.in-Some.ensures.found)

pub returns-clause-prefix : goal.returns-clause-prefix
returns-clause-prefix c =
    let src = c.args.src.now in
    let old = c.args.dst.now in
    let mid = c.else-fitting-le-TWO_BLOCKS.dst in
    let m = c.min.result in
    let least : (m ≤ length src) × (m ≤ length old) × (m < length src → m ≡ length old) =
    (omega (arith, c.min.ensures), omega (arith, c.min.ensures), λ l. omega (arith, c.min.ensures, l)) in
    let same : mid ≡ old = elim c.else-fitting-le-TWO_BLOCKS.branch [
      | else-fitting-le-TWO_BLOCKS-via-then-fitting-le-TWO_BLOCKS+else-write_short_ascii w ↦ w.dst-is
          ∙ w.write_short_ascii.ensures.2 w.if-write_short_ascii.false
      | else-fitting-le-TWO_BLOCKS-via-else-fitting-le-TWO_BLOCKS w ↦ w.dst-is
    ] in
    let whole = c.length_of_strides-whole.result in
    let call = c.length_of_strides-whole.ensures in
    let ascii = fitting_ascii (take m src) mid whole call.within.0 (fit src old mid m least same) c.in_default.ensures.found in
    prefix_fits src old mid m least same _
    (prefix_on (take m src) whole 16 c.run_len_below-run.result call.within.0 (omega (arith, call.within.1))
    (omega (arith, call.whole, c.if-whole-fitting.false)) ascii c.run_len_below-run.ensures)

pub returns-clause-copied : goal.returns-clause-copied
returns-clause-copied c =
    let src = c.args.src.now in
    let old = c.args.dst.now in
    let mid = c.else-fitting-le-TWO_BLOCKS.dst in
    let m = c.min.result in
    let least : (m ≤ length src) × (m ≤ length old) × (m < length src → m ≡ length old) =
    (omega (arith, c.min.ensures), omega (arith, c.min.ensures), λ l. omega (arith, c.min.ensures, l)) in
    let same : mid ≡ old = elim c.else-fitting-le-TWO_BLOCKS.branch [
      | else-fitting-le-TWO_BLOCKS-via-then-fitting-le-TWO_BLOCKS+else-write_short_ascii w ↦ w.dst-is
          ∙ w.write_short_ascii.ensures.2 w.if-write_short_ascii.false
      | else-fitting-le-TWO_BLOCKS-via-else-fitting-le-TWO_BLOCKS w ↦ w.dst-is
    ] in
    let room = fit src old mid m least same in
    let whole = c.length_of_strides-whole.result in
    let call = c.length_of_strides-whole.ensures in
    let run = c.run_len_below-run.ensures in
    let some : 16 ≤ length (take m src) = omega (arith, call.whole, c.if-whole-fitting.false) in
    let ascii = fitting_ascii (take m src) mid whole call.within.0 room c.in_default.ensures.found in
    let start = fitting_copied (take m src) mid whole call.within.0 room c.ascii_to_ascii.new.dst c.in_default.ensures.copied in
    copy_fits src old mid m least same _ _ (omega (arith, run.within, some))
    (copied_on (take m src) whole 16 c.run_len_below-run.result call.within.0 (omega (arith, call.within.1)) some ascii run
    mid c.ascii_to_ascii.new.dst _ room start (rw (take_rest (take m src) (length (take m src) - 16)) at c.copy_first.ensures))
