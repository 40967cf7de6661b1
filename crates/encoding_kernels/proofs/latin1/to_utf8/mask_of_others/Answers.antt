use Rattle.std.proofs.Common.{w8, arith}
use Rattle.encoding_kernels.proofs.UniformLemmas.{mask_from}
use Rattle.encoding_kernels.proofs.latin1.to_utf8.mask_of_others.Goals as goal

pub returns : goal.returns
returns c = mask_from w8 16 0x80 c.args.block c.fits-block.0 (omega arith)
