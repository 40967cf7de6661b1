use Rattle.std.proofs.Common.{ℕ, w8, eqb}
use Rattle.encoding_kernels.proofs.VectorLemmas.{HasLanes-itself, HasLanes-splat}
use Rattle.encoding_kernels.proofs.MaskLemmas.{tests_of, tests_or, chosen}
use Rattle.encoding_kernels.proofs.bidi.bytes.mark_leads.Goals as goal

pub returns : goal.returns
returns g c =
    let n = g.row.N in
    let ends = λ (x : ℕ). tests_of w8 eqb (HasLanes-itself n c.args.third c.fits-third.0) (HasLanes-splat n x) in
    chosen 0xE2 0xF0 (tests_or (tests_or (tests_or (ends 0x8F) (ends 0xA7)) (ends 0xAB)) (ends 0xAE))
