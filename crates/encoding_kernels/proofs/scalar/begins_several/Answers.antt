use Rattle.std.proofs.Common.{arith}
use Rattle.std.proofs.lemmas.Bool.Decides.{nat_tests}
use Rattle.encoding_definitions.proofs.SequenceLemmas.{begins_by_range}
use Rattle.encoding_kernels.proofs.scalar.begins_several.Goals as goal

pub returns : goal.returns
returns c =
    let small = c.ranges.byte.fits in (
      λ t. (begins_by_range c.args.byte).1 (grind (arith, nat_tests), grind (arith, nat_tests)),
      λ o. let range = (begins_by_range c.args.byte).0 o in grind (arith, nat_tests),
    )
