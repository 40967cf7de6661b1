use Rattle.std.proofs.Common.{leb, ltb, w8, refl}
use Rattle.encoding_kernels.proofs.VectorLemmas.{HasLanes-itself, HasLanes_same, HasLanes-splat}
use Rattle.encoding_kernels.proofs.MaskLemmas.{chosen, chosen_by, tests_and, tests_of}
use Rattle.encoding_kernels.proofs.utf8.repaired.below_three_lanes.Goals as goal

pub returns : goal.returns
returns g c =
    let n = g.row.N in
    let a = HasLanes-itself n c.args.lead c.fits-lead.0 in
    let b = HasLanes-itself n c.args.second c.fits-second.0 in
    let begins = tests_and (tests_of w8 leb (HasLanes-splat n 0xC2) a) (tests_of w8 leb a (HasLanes-splat n 0xDF)) in
    let continues = tests_and (tests_of w8 leb (HasLanes-splat n 0x80) b) (tests_of w8 leb b (HasLanes-splat n 0xBF)) in
    let two = chosen 1 0 (tests_and begins continues) in
    HasLanes_same (chosen_by (tests_of w8 ltb a (HasLanes-splat n 0x80)) (HasLanes-splat n 2) two) (λ k l. refl)
