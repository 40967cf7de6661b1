use Rattle.std.proofs.Common.{◌-◌, ◌≤◌, take, length}
use Rattle.encoding_definitions.specs.Prefixes.{WritesPrefix}
use Rattle.encoding_kernels.proofs.simd.copy.copy_by_strides.Given as goal

abbrev pub invariant-loop-at : goal.invariant-loop-at
invariant-loop-at g l = record { within : l.at ≤ length l.src; copied : WritesPrefix l.fn.dst l.dst l.at (take l.at l.src) }

abbrev pub decreases-loop-at : goal.decreases-loop-at
decreases-loop-at g l = length l.src - l.at
