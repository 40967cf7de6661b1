use Rattle.std.proofs.Common.{◌-◌, ◌≤◌, length}
use Rattle.encoding_kernels.specs.RightToLeft.{NoRtlIn}
use Rattle.encoding_text.proofs.mem.bidi.has_right_to_left.Given as goal

abbrev pub invariant-loop-at : goal.invariant-loop-at
invariant-loop-at l = record { within : l.at ≤ length l.bytes; none : NoRtlIn l.bytes 0 l.at }

abbrev pub decreases-loop-at : goal.decreases-loop-at
decreases-loop-at l = length l.bytes - l.at
