use Rattle.std.proofs.Common.{w8}
use Rattle.encoding_kernels.proofs.MaskLemmas.{marks_below}
use Rattle.encoding_kernels.proofs.simd.scan.BytesBelowLanePredicate.failing.Goals as goal

pub returns : goal.returns
returns g c = marks_below w8 g.row.N c.args.at c.args.self.now.bound c.args.self.now.bytes.now c.requires.0 c.requires.2
