use Rattle.std.proofs.Common.{◌-◌, ◌≤◌, ◌<◌, length}
use Rattle.encoding_kernels.specs.RightToLeft.{NoRtlIn}
use Rattle.encoding_kernels.proofs.bidi.bytes.skip_clear.Given as goal

abbrev pub invariant-loop-at : goal.invariant-loop-at
invariant-loop-at l = record {
  within : (l.from ≤ l.at) × (l.at ≤ length l.bytes);
  none : NoRtlIn l.bytes l.from l.at;
  some : 0 < l.blocks;
  few : l.blocks ≤ 8;
}

abbrev pub decreases-loop-at : goal.decreases-loop-at
decreases-loop-at l = length l.bytes - l.at

abbrev pub invariant-loop-at-2 : goal.invariant-loop-at-2
invariant-loop-at-2 l = record { within : (l.initial.at ≤ l.at) × (l.at ≤ l.end); none : NoRtlIn l.bytes l.from l.at }

abbrev pub decreases-loop-at-2 : goal.decreases-loop-at-2
decreases-loop-at-2 l = l.end - l.at
