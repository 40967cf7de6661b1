use Rattle.std.proofs.Common.{arith, sym, ap, inr, ◌∙◌, ◌≡◌, ◌≢◌, ◌<◌, ◌++◌, [], length, take}
use Rattle.std.proofs.lemmas.Bool.{eqb-true, eqb-false}
use Rattle.std.proofs.lemmas.List.{take_rest, append-nil, nil_from_length, length-append, length-take}
use Rattle.encoding_definitions.proofs.SequenceLemmas.{length-IsIncomplete}
use Rattle.encoding_text.proofs.DecodeLemmas.{source_ended, pending_full, pending_rejected, whole_then}
use Rattle.encoding_text.proofs.decoder.decode_pending.Goals as goal

pub returns-then-is_empty : goal.returns-then-is_empty
returns-then-is_empty g c =
    let none : length c.args.src.now ≡ 0 = eqb-true _ _ (sym c.is_empty.ensures ∙ c.if-is_empty.true) in
    let kept = sym (append-nil c.args.pending.now) ∙ ap (λ xs. c.args.pending.now ++ xs) (sym (nil_from_length c.args.src.now none)) in
    source_ended g.U.CodeUnit.encode g.U.CodeUnit.MAX_UNITS _ _ _ _ _ _ _ _ c.requires.unfinished kept (sym none) (λ some. absurd (omega arith)) c.end.ensures

pub returns-then-dst-MAX_UNITS : goal.returns-then-dst-MAX_UNITS
returns-then-dst-MAX_UNITS g c =
    let some : 0 < length c.args.src.now = let n = eqb-false _ _ (sym c.is_empty.ensures ∙ c.if-is_empty.false) in omega (arith, n) in
    let some_pending : c.args.pending.now ≢ [] = λ e. omega (arith, ap length e, c.requires.unfinished.0) in
    pending_full g.U.CodeUnit.encode g.U.CodeUnit.MAX_UNITS _ _ _ _ (inr c.requires.unfinished) some
    (omega (arith, c.if-dst-MAX_UNITS.true)) some_pending

pub overflow_cast-result : goal.overflow_cast-result
overflow_cast-result g c =
    let r = rw c.in-Rejected-default.is-0 at c.resume.ensures in
    omega (
      arith,
      r.1,
      length-IsIncomplete _ r.2,
      length-append c.args.pending.now
          (take c.resume.result.1 c.args.src.now),
      length-take c.resume.result.1 c.args.src.now,
      r.0,
    )

pub returns-in-Ended-default : goal.returns-in-Ended-default
returns-in-Ended-default g c =
    let r = rw c.in-Ended-default.is-0 at c.resume.ensures in
    source_ended g.U.CodeUnit.encode g.U.CodeUnit.MAX_UNITS _ _ _ _ _ _ _ _ c.requires.unfinished r.1 r.0
    (λ _. omega (arith, c.if-dst-MAX_UNITS.false)) c.end-in-Ended-default.ensures

pub returns-in-Rejected-default : goal.returns-in-Rejected-default
returns-in-Rejected-default g c =
    let r = rw c.in-Rejected-default.is-0 at c.resume.ensures in
    pending_rejected g.U.CodeUnit.encode g.U.CodeUnit.MAX_UNITS _ _ _ _ _ _ _ c.requires.unfinished
    (omega (arith, c.if-dst-MAX_UNITS.false)) r

pub returns-in-Complete-default : goal.returns-in-Complete-default
returns-in-Complete-default g c =
    let r = rw c.in-Complete-default.is-0 at c.resume.ensures in
    whole_then g.U.CodeUnit.encode g.U.CodeUnit.MAX_UNITS g.met.U.FromUtf8.holds_any _ _ c.in-Complete-default.bytes _ _ _ _ _ _
    c.in-Complete-default.count _ _ _ _ _ c.requires.unfinished
    (omega (arith, c.if-dst-MAX_UNITS.false)) r.1 r.4 r.5 c.convert_up_to_invalid-written.ensures
    (rw (take_rest c.args.src.now c.resume.result.1) at c.decode_neutral-result.ensures)
