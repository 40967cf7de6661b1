use Rattle.std.proofs.Common.{arith}
use Rattle.encoding_kernels.proofs.Utf16ToUtf8Lemmas.{ascii_block}
use Rattle.encoding_kernels.proofs.utf16_to_utf8.kinds.AsciiBlock.convert.Goals as goal

pub returns-clause-stored : goal.returns-clause-stored
returns-clause-stored c = ascii_block c.args.units c.args.dst.now c.args.at c.requires.dst_length.0 c.requires.kind (omega arith)
