use Rattle.std.proofs.Common.{◌-◌, ◌≤◌}
use Rattle.encoding_kernels.specs.RightToLeft.{NoneRightToLeft}
use Rattle.encoding_kernels.proofs.bidi.units.skip_unit_blocks_by_range.Given as goal

abbrev pub invariant-loop-at : goal.invariant-loop-at
invariant-loop-at l = record { within : (l.from ≤ l.at) × (l.at ≤ l.end); none : NoneRightToLeft l.units l.from l.at }

abbrev pub decreases-loop-at : goal.decreases-loop-at
decreases-loop-at l = l.end - l.at
