use Rattle.std.proofs.Common.{◌+◌, ◌∷◌, [], arith, refl}
use Rattle.encoding_kernels.proofs.CodeUnitLemmas.{joined_lanes}
use Rattle.encoding_kernels.proofs.simd.copy.join_bytes.Goals as goal

pub returns-clause-last : goal.returns-clause-last
returns-clause-last c = joined_lanes c.args.lower c.args.upper c.fits-lower.0 c.fits-lower.1 c.fits-upper.1
    (8 ∷ 24 ∷ 9 ∷ 25 ∷ 10 ∷ 26 ∷ 11 ∷ 27 ∷ 12 ∷ 28 ∷ 13 ∷ 29 ∷ 14 ∷ 30 ∷ 15 ∷ 31 ∷ []) (λ j. 8 + j) refl (λ j l. omega arith) refl refl
