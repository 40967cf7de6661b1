use Rattle.std.proofs.Common.{ℕ, ◌-◌, ◌<◌, ◌≤◌, length, slice_index}
use Rattle.cuts_example.proofs.cut_length.Given as goal

abbrev pub invariant-loop-length : goal.invariant-loop-length
invariant-loop-length l = record { least : l.least ≤ l.length; none : (k : ℕ) → l.least ≤ k → k < l.length → 0x80 ≤ slice_index l.bytes (k - 1) }

abbrev pub decreases-loop-length : goal.decreases-loop-length
decreases-loop-length l = length l.bytes - l.length
