use Rattle.std.proofs.Common.{◌≡◌, ◌-◌, ◌≤◌, length, take, map}
use Rattle.legacy_example.specs.Windows1252.{scalar_of}
use Rattle.legacy_example.proofs.latin1_length.Given as goal

abbrev pub invariant-loop-length : goal.invariant-loop-length
invariant-loop-length l = record { within : l.length ≤ length l.bytes; same : map scalar_of (take l.length l.bytes) ≡ take l.length l.bytes }

abbrev pub decreases-loop-length : goal.decreases-loop-length
decreases-loop-length l = length l.bytes - l.length
