use Rattle.encoding_kernels.proofs.CodeUnitLemmas.{halves_ok, lower_half, upper_half}
use Rattle.encoding_kernels.proofs.simd.compress.select_in_halves.Goals as goal

pub swizzle-selected : goal.swizzle-selected
swizzle-selected c = halves_ok c.args.bytes c.args.first c.args.second c.requires.lane_count.0 c.requires.lane_count.1 c.requires.within

pub returns-clause-lower : goal.returns-clause-lower
returns-clause-lower c = lower_half c.args.bytes c.args.first c.args.second c.requires.lane_count.0 c.requires.lane_count.1 c.requires.within

pub returns-clause-upper : goal.returns-clause-upper
returns-clause-upper c = upper_half c.args.bytes c.args.first c.args.second c.requires.lane_count.0 c.requires.lane_count.1 c.requires.within
