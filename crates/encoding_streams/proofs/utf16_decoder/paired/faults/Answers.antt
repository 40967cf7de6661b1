use Rattle.std.proofs.Common.{◌≡◌, ◌+◌, false, w16, arith, eqb, bit_and, slice_index}
use Rattle.encoding_kernels.specs.Neighbors.{pair_fault}
use Rattle.encoding_kernels.proofs.VectorLemmas.{HasLanes_loaded, HasLanes-splat, HasLanes-zip2}
use Rattle.encoding_kernels.proofs.MaskLemmas.{tests_of, tests_xor, marks_of}
use Rattle.encoding_streams.proofs.utf16_decoder.paired.faults.Goals as goal

pub returns : goal.returns
returns g c =
    let us = g.S.CodeUnits.units c.args.src in
    let at = c.args.at in
    let next = HasLanes-zip2 bit_and (HasLanes_loaded (at + 1) 16 us _ (omega arith) c.sixteen.ensures) (HasLanes-splat 16 0xFC00) in
    let units = HasLanes-zip2 bit_and (HasLanes_loaded at 16 us _ (omega arith) c.sixteen-2.ensures) (HasLanes-splat 16 0xFC00) in
    let low = tests_of w16 eqb next (HasLanes-splat 16 0xDC00) in
    let high = tests_of w16 eqb units (HasLanes-splat 16 0xD800) in
    marks_of (λ k. pair_fault (slice_index us (k + 1)) (slice_index us k) ≡ false) at (tests_xor low high) (omega arith)
    (λ k l. let e : at + 1 + k ≡ at + k + 1 = omega arith in rw e (λ x. x, λ x. x))
