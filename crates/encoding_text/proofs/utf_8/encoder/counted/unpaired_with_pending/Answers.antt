use Rattle.std.proofs.Common.{◌≡◌, ◌∷◌, ◌-◌, ◌<◌, [], length, take, arith, ap, refl, subst}
use Rattle.std.proofs.lemmas.Bool.Decides.{nat_tests}
use Rattle.std.proofs.lemmas.List.{length-take-le, take_rest}
use Rattle.encoding_definitions.specs.Surrogates.{HasUnpaired}
use Rattle.encoding_definitions.proofs.UnpairedCountLemmas.{HasUnpaired-within}
use Rattle.encoding_text.specs.Encoding.{IsPendingSurrogate, pending_units}
use Rattle.encoding_text.proofs.EncoderCountLemmas.{counts_pending, counts_pair, counts_unpaired}
use Rattle.encoding_text.proofs.EncoderLemmas.{none_there}
use Rattle.encoding_text.proofs.utf_8.encoder.counted.unpaired_with_pending.Goals as goal
use Rattle.encoding_text.proofs.utf_8.encoder.counted.unpaired_with_pending.Goals.{else-not-is_empty-via-then-not-is_empty+else-is_low_surrogate}
use Rattle.encoding_text.proofs.utf_8.encoder.counted.unpaired_with_pending.Goals.{else-not-is_empty-via-else-not-is_empty}

pub returns-then-is_empty : goal.returns-then-is_empty
returns-then-is_empty c =
    let e : pending_units c.args.pending ≡ c.in-Some.field-0 ∷ [] = ap pending_units c.in-Some.is in
    counts_pending (pending_units c.args.pending) c.args.units.now c.args.kept c.in-Some.field-0 e (subst IsPendingSurrogate e c.requires.surrogate)
    (none_there c.is_empty.result (length c.args.units.now) c.is_empty.ensures c.if-is_empty.true) c.requires.one

pub overflow_add-result : goal.overflow_add-result
overflow_add-result c =
    let us = c.args.units.now in
    let some : 0 < length us = grind (arith, nat_tests, c.is_empty.ensures, c.if-is_empty.false) in
    let m = length us - c.args.kept in
    omega (
      arith,
      c.requires.one,
      some,
      HasUnpaired-within (take m us) c.unpaired_of_units-else-not-is_empty.result c.unpaired_of_units-else-not-is_empty.ensures,
      length-take-le m us (omega arith),
    )

pub returns-then-is_low_surrogate : goal.returns-then-is_low_surrogate
returns-then-is_low_surrogate c =
    let us = c.args.units.now in
    let some : 0 < length us = grind (arith, nat_tests, c.is_empty.ensures, c.if-is_empty.false) in
    let due = take (length us - c.args.kept) us in
    let first : 0 < length due = grind (arith, nat_tests, c.is_empty-2.ensures, c.if-not-is_empty.true) in
    let n = c.unpaired_of_units-then-is_low_surrogate.result in
    let e : pending_units c.args.pending ≡ c.in-Some.field-0 ∷ [] = ap pending_units c.in-Some.is in
    counts_pair (pending_units c.args.pending) us c.args.kept c.in-Some.field-0 e (subst IsPendingSurrogate e c.requires.surrogate) n
    (omega (arith, c.requires.one, some)) first ((c.if-is_low_surrogate.ensures {u = tt}).0 refl)
    (subst (λ xs. HasUnpaired xs n) (take_rest due 1) c.unpaired_of_units-then-is_low_surrogate.ensures)

pub returns-else-not-is_empty : goal.returns-else-not-is_empty
returns-else-not-is_empty c =
    let us = c.args.units.now in
    let some : 0 < length us = grind (arith, nat_tests, c.is_empty.ensures, c.if-is_empty.false) in
    let due = take (length us - c.args.kept) us in
    let e : pending_units c.args.pending ≡ c.in-Some.field-0 ∷ [] = ap pending_units c.in-Some.is in
    counts_unpaired (pending_units c.args.pending) us c.args.kept c.in-Some.field-0 e (subst IsPendingSurrogate e c.requires.surrogate)
    c.unpaired_of_units-else-not-is_empty.result (omega (arith, c.requires.one, some)) (λ l low. elim c.else-not-is_empty.branch [
      | else-not-is_empty-via-then-not-is_empty+else-is_low_surrogate w ↦ cc ((w.if-is_low_surrogate.ensures {u = tt}).1 low)
      | else-not-is_empty-via-else-not-is_empty w ↦ omega (arith, l, none_there c.is_empty-2.result (length due) c.is_empty-2.ensures w.if-not-is_empty.false)
    ])
    c.unpaired_of_units-else-not-is_empty.ensures
