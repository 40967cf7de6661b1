use Rattle.std.proofs.Common.{◌-◌, ◌≤◌, length}
use Rattle.encoding_kernels.specs.Scans.{BelowUpTo}
use Rattle.encoding_kernels.proofs.simd.scan.prefix_len_below.Given as goal

abbrev pub invariant-loop-at : goal.invariant-loop-at
invariant-loop-at l = record { within : l.at ≤ length l.bytes; below : BelowUpTo l.bound l.bytes l.at }

abbrev pub decreases-loop-at : goal.decreases-loop-at
decreases-loop-at l = length l.bytes - l.at
