use Rattle.encoding_kernels.proofs.VectorLemmas.{put_copied}
use Rattle.encoding_kernels.proofs.simd.copy.unpack.Goals as goal

pub returns : goal.returns
returns g c = put_copied c.args.from c.args.at g.row.N c.args.dst.now c.args.src.now c.requires.0 c.requires.1
