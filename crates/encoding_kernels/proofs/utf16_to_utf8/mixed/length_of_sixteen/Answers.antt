use Rattle.std.proofs.Common.{arith, ap}
use Rattle.std.specs.Int.RustNames.{count_ones}
use Rattle.encoding_kernels.proofs.MixedLemmas.{encoded_long}
use Rattle.encoding_kernels.proofs.utf16_to_utf8.mixed.length_of_sixteen.Goals as goal

pub returns-clause-count : goal.returns-clause-count
returns-clause-count c = omega (arith, encoded_long c.args.units c.fits-units.1, ap count_ones c.mask_of_classes.ensures.mask, c.requires)
