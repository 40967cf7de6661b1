use Rattle.std.proofs.Common.{◌-◌, ◌≤◌, length}
use Rattle.encoding_kernels.specs.RightToLeft.{NoneRightToLeft}
use Rattle.encoding_text.proofs.mem.bidi.is_utf16_bidi.Given as goal

abbrev pub invariant-loop-at : goal.invariant-loop-at
invariant-loop-at l = record { within : l.at ≤ length l.buffer; none : NoneRightToLeft l.buffer 0 l.at }

abbrev pub decreases-loop-at : goal.decreases-loop-at
decreases-loop-at l = length l.buffer - l.at

abbrev pub invariant-loop-i : goal.invariant-loop-i
invariant-loop-i l = NoneRightToLeft l.buffer 0 l.i
