use Rattle.std.proofs.Common.{◌+◌, ◌%◌, ◌^◌, eqb, leb, ltb, not, bit_and, slice_index, Fits, w8, arith}
use Rattle.std.proofs.lemmas.Simd.{Each1-get_or}
use Rattle.encoding_kernels.proofs.VectorLemmas.{HasLanes-itself, HasLanes_same, HasLanes-splat, HasLanes-zip2}
use Rattle.encoding_kernels.proofs.MaskLemmas.{chosen, tests_and, tests_of}
use Rattle.encoding_kernels.proofs.SumLemmas.{joined_lane}
use Rattle.encoding_kernels.proofs.utf8.length.joined_lanes.Goals as goal

pub returns : goal.returns
returns g c =
    let n = g.row.N in
    let a = HasLanes-itself n c.args.lead c.fits-lead.0 in
    let b = HasLanes-itself n c.args.second c.fits-second.0 in
    let d = HasLanes-itself n c.args.third c.fits-third.0 in
    let three = chosen 0xE0 0xED (tests_of w8 ltb b (HasLanes-splat n 0xA0)) in
    let four = chosen 0xF0 0xF4 (tests_of w8 ltb b (HasLanes-splat n 0x90)) in
    let least = tests_of w8 leb (HasLanes-splat n 0xC2) a in
    let most = tests_of w8 leb a (HasLanes-splat n 0xF4) in
    let not_three = tests_of w8 (λ x y. not (eqb x y)) a three in
    let not_four = tests_of w8 (λ x y. not (eqb x y)) a four in
    let begins = tests_and (tests_and (tests_and least most) not_three) not_four in
    let both = tests_and begins (tests_of w8 eqb (HasLanes-zip2 bit_and b (HasLanes-splat n 0xC0)) (HasLanes-splat n 0x80)) in
    let long = tests_of w8 leb (HasLanes-splat n 0xE0) a in
    let third = tests_of w8 eqb (HasLanes-zip2 bit_and d (HasLanes-splat n 0xC0)) (HasLanes-splat n 0x80) in
    let goes_on = tests_and (tests_and both long) third in
    HasLanes_same (HasLanes-zip2 (λ x y. (x + y) % 2 ^ 8) (chosen 1 0 both) (chosen 1 0 goes_on))
    (λ k l. joined_lane (slice_index c.args.lead k) (slice_index c.args.second k) (slice_index c.args.third k)
    (Each1-get_or (Fits w8) c.args.second k 0 (omega (arith, c.fits-second.0)) c.fits-second.1).fits
    (Each1-get_or (Fits w8) c.args.third k 0 (omega (arith, c.fits-third.0)) c.fits-third.1).fits)
