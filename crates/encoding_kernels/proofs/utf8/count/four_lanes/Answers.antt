use Rattle.std.proofs.Common.{eqb, leb, ltb, not, slice_index, w8}
use Rattle.encoding_kernels.proofs.VectorLemmas.{HasLanes-itself, HasLanes_same, HasLanes-splat}
use Rattle.encoding_kernels.proofs.MaskLemmas.{chosen, tests_and, tests_of}
use Rattle.encoding_kernels.proofs.CountLemmas.{whole_lane}
use Rattle.encoding_kernels.proofs.utf8.count.four_lanes.Goals as goal

pub returns : goal.returns
returns g c =
    let n = g.row.N in
    let a = HasLanes-itself n c.args.lead c.fits-lead.0 in
    let b = HasLanes-itself n c.args.second c.fits-second.0 in
    let t = HasLanes-itself n c.args.third c.fits-third.0 in
    let f = HasLanes-itself n c.args.fourth c.fits-fourth.0 in
    let excluded = chosen 0xF0 0xF4 (tests_of w8 ltb b (HasLanes-splat n 0x90)) in
    let least = tests_of w8 leb (HasLanes-splat n 0xF0) a in
    let most = tests_of w8 leb a (HasLanes-splat n 0xF4) in
    let other = tests_of w8 (λ x y. not (eqb x y)) a excluded in
    let second = tests_and (tests_and (tests_and least most) other) (tests_of w8 leb (HasLanes-splat n 0x80) b) in
    let begins = tests_and second (tests_of w8 ltb b (HasLanes-splat n 0xC0)) in
    let third = tests_and (tests_of w8 leb (HasLanes-splat n 0x80) t) (tests_of w8 ltb t (HasLanes-splat n 0xC0)) in
    let fourth = tests_and (tests_of w8 leb (HasLanes-splat n 0x80) f) (tests_of w8 ltb f (HasLanes-splat n 0xC0)) in
    HasLanes_same (chosen 1 0 (tests_and (tests_and begins third) fourth))
    (λ k l. whole_lane (slice_index c.args.lead k) (slice_index c.args.second k) (slice_index c.args.third k) (slice_index c.args.fourth k))
