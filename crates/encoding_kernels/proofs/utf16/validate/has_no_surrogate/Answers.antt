use Rattle.std.proofs.Common.{ℕ, ◌+◌, ◌-◌, ◌%◌, ◌^◌, ◌≤◌, w16, ltb, length, arith}
use Rattle.encoding_kernels.proofs.VectorLemmas.{HasLanes_load, HasLanes-splat, HasLanes-zip2}
use Rattle.encoding_kernels.proofs.MaskLemmas.{tests_of, chosen_by, none_passes}
use Rattle.encoding_kernels.proofs.PairsLemmas.{none_in_block}
use Rattle.encoding_kernels.proofs.utf16.validate.has_no_surrogate.Goals as goal

pub returns : goal.returns
returns c t =
    let us = c.args.block.now in
    let less = λ (at : ℕ) (within : at + 16 ≤ length us). HasLanes-zip2 (λ a b. (a + (2 ^ 16 - b)) % 2 ^ 16) (HasLanes_load at 16 us within)
    (HasLanes-splat 16 0xD800) in
    let first = less 0 (omega (arith, c.requires)) in
    let second = less 16 (omega (arith, c.requires)) in
    let third = less 32 (omega (arith, c.requires)) in
    let fourth = less 48 (omega (arith, c.requires)) in
    let lower = chosen_by (tests_of w16 ltb first second) first second in
    let upper = chosen_by (tests_of w16 ltb third fourth) third fourth in
    let lowest = chosen_by (tests_of w16 ltb lower upper) lower upper in
    none_in_block us c.requires (λ k. (c.type_inv.block k).fits) ((none_passes (tests_of w16 ltb lowest (HasLanes-splat 16 0x800)) (omega arith)).0 t)
