use Rattle.std.proofs.Common.{arith}
use Rattle.encoding_kernels.proofs.Latin1FromUtf8Lemmas.{first_length}
use Rattle.encoding_kernels.proofs.latin1.from_utf8.latin1_length_of_first.Goals as goal

pub overflow_sub-result : goal.overflow_sub-result
overflow_sub-result c = omega (arith, first_length 0 c.args.block c.args.count c.fits-block.0 c.requires)

pub returns : goal.returns
returns c p = omega (arith, first_length p c.args.block c.args.count c.fits-block.0 c.requires)
