use Rattle.std.proofs.Common.{◌≡◌, [], refl, sym, subst, arith}
use Rattle.encoding_streams.specs.Utf16Parts.{IsPendingUtf16}
use Rattle.encoding_streams.proofs.Utf16ByteLemmas.{pending_nil}
use Rattle.encoding_streams.proofs.Utf16StepLemmas.{advance_none, advance_then, all_after, ends_after}
use Rattle.encoding_streams.proofs.utf16_decoder.decode.Goals as goal

pub loop-read-init : goal.loop-read-init
loop-read-init g c = record {
  advanced = advance_none c.args.order g.U.CodeUnit.encode c.args.pending.now c.args.src.now c.args.dst.now;
  still_pending = c.requires.pending;
  kept = λ _. (refl, refl);
}

pub overflow_add-read : goal.overflow_add-read
overflow_add-read g c =
    omega (
      arith,
      (advance_then c.args.order g.U.CodeUnit.encode _ _ _ c.args.src.now _ _ _ _ _ _ _ c.loop-read.invariant.advanced
          c.convert_neutral-more.ensures.characters).within,
    )

pub returns-then-is_empty : goal.returns-then-is_empty
returns-then-is_empty g c =
    let order = c.args.order in
    let encode = g.U.CodeUnit.encode in
    let none : c.loop-read.pending ≡ [] = c.is_empty.ensures.0 c.if-is_empty.true in
    let first =
    advance_then order encode _ _ _ c.args.src.now _ _ _ _ _ _ _ c.loop-read.invariant.advanced c.convert_neutral-more.ensures.characters in
    rw none (all_after order encode g.U.CodeUnit.need _ _ _ _ _ _ _ c.requires.pending (rw none at first) c.if-read-src.true)

pub returns-in-Some : goal.returns-in-Some
returns-in-Some g c =
    let order = c.args.order in
    let encode = g.U.CodeUnit.encode in
    let kept = c.loop-read.invariant in
    let converted = c.convert_neutral-more.ensures in
    let first = advance_then order encode _ _ _ c.args.src.now _ _ _ _ _ _ _ kept.advanced converted.characters in
    ends_after order encode g.U.CodeUnit.need _ _ _ _ _ _ _ _ _ _ _ _ c.in-Some.result c.requires.pending first
    (λ some. (omega (arith, (kept.kept some).0, converted.none some), (kept.kept some).1)) (rw c.in-Some.is at c.resume-result.ensures)

pub loop-read-preserved : goal.loop-read-preserved
loop-read-preserved g c =
    let order = c.args.order in
    let encode = g.U.CodeUnit.encode in
    let converted = c.convert_neutral-more.ensures in
    let (some, none, more) = rw c.in-None.is at c.resume-result.ensures in
    let first = advance_then order encode _ _ _ c.args.src.now _ _ _ _ _ _ _ c.loop-read.invariant.advanced converted.characters in
    record {
      advanced = advance_then order encode _ _ _ c.args.src.now _ _ _ _ _ _ _ first more;
      still_pending = subst (IsPendingUtf16 order) (sym none) (pending_nil order);
      kept = λ pending. absurd (pending none);
    }

pub loop-read-smaller : goal.loop-read-smaller
loop-read-smaller g c =
    let order = c.args.order in
    let encode = g.U.CodeUnit.encode in
    let converted = c.convert_neutral-more.ensures in
    let (some, none, more) = rw c.in-None.is at c.resume-result.ensures in
    let first = advance_then order encode _ _ _ c.args.src.now _ _ _ _ _ _ _ c.loop-read.invariant.advanced converted.characters in
    let second = advance_then order encode _ _ _ c.args.src.now _ _ _ _ _ _ _ first more in
    omega (arith, some, second.within)
