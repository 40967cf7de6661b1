use Rattle.std.proofs.Common.{◌≡◌, ◌<◌, ◌^◌, w16, length, map, ◌∙◌, ap, arith, subst}
use Rattle.std.specs.Prelude.{nat_le}
use Rattle.std.specs.Simd.Lanes.{mask_l}
use Rattle.std.proofs.lemmas.List.{length-map}
use Rattle.std.proofs.lemmas.Simd.{mask_l-lt}
use Rattle.encoding_kernels.proofs.SignedLemmas.{same_comparison}
use Rattle.encoding_kernels.proofs.UniformLemmas.{mask_from}
use Rattle.encoding_kernels.proofs.VectorLemmas.{mask_of}
use Rattle.encoding_kernels.proofs.utf16_to_utf8.two_byte.mask_of_others.Goals as goal

pub returns-clause-mask : goal.returns-clause-mask
returns-clause-mask c = ap (mask_of 15) (same_comparison c.args.units c.fits-units.0 c.requires)
    ∙ mask_from w16 16 0x80 c.args.units c.fits-units.0 (omega arith)

pub returns-clause-upper_bound : goal.returns-clause-upper_bound
returns-clause-upper_bound c =
    let marks = map (nat_le 0x80) c.args.units in
    let long : length marks ≡ 16 = length-map c.args.units (nat_le 0x80) ∙ c.fits-units.0 in
    let small : mask_l marks < 2 ^ 16 = subst (λ n. mask_l marks < 2 ^ n) long (mask_l-lt marks) in
    omega (arith, small, returns-clause-mask c)
