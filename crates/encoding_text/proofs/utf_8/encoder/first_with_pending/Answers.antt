use Rattle.std.proofs.Common.{◌∷◌, ◌<◌, length, arith, refl, rules}
use Rattle.encoding_definitions.proofs.Utf16PrefixLemmas.{scalar_of_two, scalar_of_unpaired}
use Rattle.encoding_text.proofs.EncoderLemmas.{none_there}
use Rattle.encoding_text.proofs.utf_8.encoder.first_with_pending.Goals as goal
use Rattle.encoding_text.proofs.utf_8.encoder.first_with_pending.Goals.{else-not-is_empty-via-then-not-is_empty+else-is_low_surrogate}
use Rattle.encoding_text.proofs.utf_8.encoder.first_with_pending.Goals.{else-not-is_empty-via-else-not-is_empty}

pub returns-then-is_low_surrogate-clause-scalar : goal.returns-then-is_low_surrogate-clause-scalar
returns-then-is_low_surrogate-clause-scalar c =
    let low = (c.if-is_low_surrogate.ensures {u = tt}).0 refl in
    let some : 0 < length c.args.src.now = search (rules) in
    rw c.pair_scalar.ensures
    (scalar_of_two (c.args.high ∷ c.args.src.now) 0 (omega arith) (c.requires.0, omega (arith, c.requires.1), low.0, omega (arith, low.1)))

pub returns-clause-scalar : goal.returns-clause-scalar
returns-clause-scalar c =
    scalar_of_unpaired (c.args.high ∷ c.args.src.now) 0 (omega arith) c.requires.0 (omega (arith, c.requires.1)) (λ l p. elim c.else-not-is_empty.branch [
      | else-not-is_empty-via-then-not-is_empty+else-is_low_surrogate w ↦ cc ((w.if-is_low_surrogate.ensures {u = tt}).1 (p.2, omega (arith, p.3)))
      | else-not-is_empty-via-else-not-is_empty w ↦
          omega (arith, l, none_there c.is_empty.result (length c.args.src.now) c.is_empty.ensures w.if-not-is_empty.false)
    ])
