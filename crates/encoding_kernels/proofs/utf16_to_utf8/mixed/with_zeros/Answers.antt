use Rattle.encoding_kernels.proofs.MixedLemmas.{first_lanes_are}
use Rattle.encoding_kernels.proofs.utf16_to_utf8.mixed.with_zeros.Goals as goal

pub returns : goal.returns
returns c = first_lanes_are c.args.first c.args.units c.requires.0 c.requires.1
