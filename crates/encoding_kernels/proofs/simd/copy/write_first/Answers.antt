use Rattle.std.proofs.Common.{w8}
use Rattle.encoding_kernels.proofs.CopyLemmas.{put_first}
use Rattle.encoding_kernels.proofs.simd.copy.write_first.Goals as goal

pub returns : goal.returns
returns c = put_first w8 c.args.at c.args.count c.args.dst.now c.args.bytes c.requires.dst_length c.requires.bytes.1 c.requires.bytes.0
