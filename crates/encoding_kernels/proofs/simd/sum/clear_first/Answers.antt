use Rattle.std.proofs.Common.{◌≡◌, ◌-◌, length, refl, arith, ltb, slice_index, w8}
use Rattle.encoding_kernels.proofs.VectorLemmas.{HasLanes-itself, HasLanes_load, HasLanes_same}
use Rattle.encoding_kernels.proofs.MaskLemmas.{chosen_by, tests_of}
use Rattle.encoding_kernels.proofs.SumLemmas.{cut_lane}
use Rattle.encoding_kernels.specs.declared.simd.sum.TheConstants.{BOUNDS}
use Rattle.encoding_kernels.proofs.simd.sum.clear_first.Goals as goal

pub returns : goal.returns
returns g c =
    let lanes = HasLanes-itself g.row.N c.args.lanes c.fits-lanes.0 in
    let long : length BOUNDS ≡ 128 = refl in
    let bounds = HasLanes_load (64 - c.args.skip) g.row.N BOUNDS (omega (arith, long)) in
    HasLanes_same (chosen_by (tests_of w8 ltb lanes bounds) lanes bounds) (λ k l. cut_lane (slice_index c.args.lanes k) k c.args.skip (c.requires.few k l)
    (omega arith) (omega arith))
