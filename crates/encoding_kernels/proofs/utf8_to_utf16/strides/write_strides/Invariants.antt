use Rattle.std.proofs.Common.{◌+◌, ◌-◌, ◌≤◌, length}
use Rattle.encoding_kernels.specs.EndingUnits.{StoresUnits}
use Rattle.encoding_kernels.proofs.utf8_to_utf16.strides.write_strides.Given as goal

abbrev pub invariant-loop-at : goal.invariant-loop-at
invariant-loop-at g l = (16 ≤ l.at) × (l.at ≤ length l.src) × StoresUnits l.src l.fn.dst l.dst l.at l.written (l.written + 0)

abbrev pub decreases-loop-at : goal.decreases-loop-at
decreases-loop-at g l = length l.src - l.at
