use Rattle.std.proofs.Common.{◌+◌, ◌%◌, ◌^◌, eqb, leb, not, nat_eq, bit_and, slice_index, Fits, w8, arith}
use Rattle.std.proofs.lemmas.Simd.{Each1-get_or}
use Rattle.encoding_kernels.proofs.VectorLemmas.{HasLanes-itself, HasLanes_same, HasLanes-splat, HasLanes-zip2}
use Rattle.encoding_kernels.proofs.MaskLemmas.{chosen, tests_of}
use Rattle.encoding_kernels.proofs.KnownLengthLemmas.{begun_lane}
use Rattle.encoding_kernels.proofs.utf8.known.begun_lanes.Goals as goal

pub returns : goal.returns
returns g c =
    let n = g.row.N in
    let bytes = HasLanes-itself n c.args.bytes c.fits-bytes.0 in
    let follows = tests_of w8 eqb (HasLanes-zip2 bit_and bytes (HasLanes-splat n 0xC0)) (HasLanes-splat n 0x80) in
    let pairs = tests_of w8 leb (HasLanes-splat n 0xF0) bytes in
    HasLanes_same (HasLanes-zip2 (λ x y. (x + y) % 2 ^ 8) (chosen 0 1 follows) (chosen c.from.result 0 pairs))
    (λ k l. begun_lane (not (nat_eq g.row.PAIRS 0)) (slice_index c.args.bytes k) c.from.result
    (Each1-get_or (Fits w8) c.args.bytes k 0 (omega (arith, c.fits-bytes.0)) c.fits-bytes.1).fits c.from.ensures)
