use Rattle.std.proofs.Common.{arith, refl}
use Rattle.encoding_kernels.proofs.ScalarsLemmas.{pair_begins, unit_begins}
use Rattle.encoding_kernels.proofs.utf16_to_utf8.tail.character_at.Goals as goal

pub returns-then-not-is_surrogate-clause-character : goal.returns-then-not-is_surrogate-clause-character
returns-then-not-is_surrogate-clause-character g c =
    let us = g.S.CodeUnits.units c.args.src in
    let unit = c.unit_at-unit.ensures in
    rw (c.from.ensures, unit) (unit_begins us c.args.at c.requires (omega (arith, unit, c.unit_at-unit.type_inv))
    (λ l h. cc ((c.if-not-is_surrogate.ensures {u = tt}).1 (omega (arith, unit, l), omega (arith, unit, h)))))

pub returns-then-is_low_surrogate-clause-character : goal.returns-then-is_low_surrogate-clause-character
returns-then-is_low_surrogate-clause-character g c =
    let us = g.S.CodeUnits.units c.args.src in
    let high = (c.if-is_high_surrogate.ensures {u = tt}).0 refl in
    let low = (c.if-is_low_surrogate.ensures {u = tt}).0 refl in
    let unit = c.unit_at-unit.ensures in
    let next = c.unit_at-next.ensures in
    rw (c.pair_scalar.ensures, unit, next) (pair_begins us c.args.at (omega (arith, c.if-count-at-gt1.true, c.count.ensures.count))
    (omega (arith, unit, high), omega (arith, unit, high), omega (arith, next, low), omega (arith, next, low)))
