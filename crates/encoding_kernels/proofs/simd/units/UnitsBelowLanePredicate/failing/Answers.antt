use Rattle.std.proofs.Common.{w16}
use Rattle.encoding_kernels.proofs.MaskLemmas.{marks_below}
use Rattle.encoding_kernels.proofs.simd.units.UnitsBelowLanePredicate.failing.Goals as goal

pub returns : goal.returns
returns g c = marks_below w16 g.row.N c.args.at c.args.self.now.bound c.args.self.now.units.now c.requires.0 c.requires.2
