use Rattle.encoding_kernels.proofs.VectorLemmas.{put_copied}
use Rattle.encoding_kernels.proofs.simd.copy.pack.Goals as goal

pub returns : goal.returns
returns g c = put_copied c.args.from c.args.at g.row.N c.args.dst.now c.args.src.now c.requires.within.0 c.requires.within.1
