use Rattle.std.proofs.Common.{◌≡◌, ◌+◌, false, w16, arith, eqb, bit_and, slice_index}
use Rattle.encoding_kernels.specs.Neighbors.{pair_fault}
use Rattle.encoding_kernels.proofs.VectorLemmas.{HasLanes_load, HasLanes-splat, HasLanes-zip2}
use Rattle.encoding_kernels.proofs.MaskLemmas.{tests_of, tests_xor, marks_of}
use Rattle.encoding_kernels.proofs.utf16.validate.UnitPairsLanePredicate.failing.Goals as goal

pub returns : goal.returns
returns g c =
    let us = c.args.self.now.units.now in
    let at = c.args.at in
    let n = g.row.N in
    let tops = HasLanes-zip2 bit_and (HasLanes_load (at + 1) n us (omega arith)) (HasLanes-splat n 0xFC00) in
    let before = HasLanes-zip2 bit_and (HasLanes_load at n us (omega arith)) (HasLanes-splat n 0xFC00) in
    let low = tests_of w16 eqb tops (HasLanes-splat n 0xDC00) in
    let high = tests_of w16 eqb before (HasLanes-splat n 0xD800) in
    marks_of (λ k. pair_fault (slice_index us (k + 1)) (slice_index us k) ≡ false) at (tests_xor low high) c.requires.2
    (λ k l. let e : at + 1 + k ≡ at + k + 1 = omega arith in rw e (λ x. x, λ x. x))
