use Rattle.std.proofs.Common.{◌≡◌, ◌<◌, ◌^◌, length, arith, subst}
use Rattle.std.specs.Simd.Lanes.{mask_l}
use Rattle.std.proofs.lemmas.Simd.{mask_l-lt}
use Rattle.encoding_kernels.specs.KeptBytes.{length_classes}
use Rattle.encoding_kernels.proofs.MixedLemmas.{mask_is_classes, classes_long}
use Rattle.encoding_kernels.proofs.utf16_to_utf8.mixed.mask_of_classes.Goals as goal

pub returns-clause-mask : goal.returns-clause-mask
returns-clause-mask c = mask_is_classes c.args.units c.fits-units.0 c.fits-units.1

pub returns-clause-upper_bound : goal.returns-clause-upper_bound
returns-clause-upper_bound c =
    let double : length (length_classes c.args.units) ≡ 32 = omega (arith, classes_long c.args.units, c.fits-units.0) in
    let small : mask_l (length_classes c.args.units) < 2 ^ 32 =
    subst (λ n. mask_l (length_classes c.args.units) < 2 ^ n) double (mask_l-lt (length_classes c.args.units)) in
    omega (arith, small, returns-clause-mask c)
