use Rattle.std.proofs.Common.{w16, arith}
use Rattle.encoding_kernels.proofs.UniformLemmas.{mask_from}
use Rattle.encoding_kernels.proofs.utf16_to_utf8.pairs.mask_beyond_ascii.Goals as goal

pub returns-clause-mask : goal.returns-clause-mask
returns-clause-mask c = mask_from w16 8 0x80 c.args.units c.fits-units.0 (omega arith)
