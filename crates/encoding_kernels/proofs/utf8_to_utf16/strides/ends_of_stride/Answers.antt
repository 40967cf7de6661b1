use Rattle.std.proofs.Common.{◌≡◌, ◌^◌, ◌*◌, ◌/◌, ◌%◌, ◌-◌, ◌++◌, ◌∙◌, arith, bit_and, drop, false, refl, replicate, take}
use Rattle.std.specs.Simd.Lanes.{mask_l}
use Rattle.std.proofs.lemmas.Nat.{one_shl}
use Rattle.encoding_kernels.specs.EndingUnits.{ends_after}
use Rattle.encoding_kernels.proofs.CodeUnitLemmas.{stride_mask}
use Rattle.encoding_kernels.proofs.MaskPartLemmas.{mask_between, part_size, sixteen_small}
use Rattle.encoding_kernels.proofs.GroupLemmas.{stride_marks}
use Rattle.encoding_kernels.proofs.utf8_to_utf16.strides.ends_of_stride.Goals as goal

pub returns : goal.returns
returns c =
    let from = c.args.from in
    let to = c.args.to in
    let marks = take 16 (drop c.args.at (ends_after 0 c.args.src.now)) in
    let long = stride_marks c.args.src.now c.args.at c.requires.within in
    let is = stride_mask c.args.src.now c.args.one c.args.at c.requires.within c.requires.one_before in
    let kept = replicate from false ++ drop from (take to marks ++ replicate (16 - to) false) in
    let e : bit_and _ (1 * 2 ^ to % 2 ^ 64 - 1) / 2 ^ from * 2 ^ from ≡ mask_l kept =
    (λ i. bit_and (is i) (one_shl to 64 (omega arith) i - 1) / 2 ^ from * 2 ^ from) ∙ mask_between marks from to long c.requires.part.0 c.requires.part.1 in
    let small = sixteen_small kept (part_size marks from to long c.requires.part.0 c.requires.part.1) (mask_l kept) refl in
    record { small = omega (arith, e, small); mask = omega (arith, e, small) }
