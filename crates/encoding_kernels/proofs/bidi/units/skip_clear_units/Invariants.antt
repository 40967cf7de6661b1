use Rattle.std.proofs.Common.{◌-◌, ◌≤◌, ◌<◌, length}
use Rattle.encoding_kernels.specs.RightToLeft.{NoneRightToLeft}
use Rattle.encoding_kernels.proofs.bidi.units.skip_clear_units.Given as goal

abbrev pub invariant-loop-at : goal.invariant-loop-at
invariant-loop-at l = record {
  within : (l.from ≤ l.at) × (l.at ≤ length l.units);
  none : NoneRightToLeft l.units l.from l.at;
  some : 0 < l.blocks;
  few : l.blocks ≤ 8;
}

abbrev pub decreases-loop-at : goal.decreases-loop-at
decreases-loop-at l = length l.units - l.at
