use Rattle.encoding_kernels.proofs.JoinedLemmas.{unit_others}
use Rattle.encoding_kernels.proofs.simd.units.others_of_32.Goals as goal

pub returns : goal.returns
returns c = unit_others c.args.bound c.args.at c.args.units.now c.requires
