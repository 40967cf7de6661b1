use Rattle.std.proofs.Common.{ℕ, ◌-◌, ◌≤◌, List, ◌++◌, length, drop}
use Rattle.encoding_runs.specs.MalformedSequences.{AreFoundInTurn}
use Rattle.cuts_example.proofs.malformed_indices.Given as goal

-- what is found in turn after what was read follows what was found
abbrev pub invariant-loop-place : goal.invariant-loop-place
invariant-loop-place l = record {
  within : l.read ≤ length l.bytes;
  found : (others : List (ℕ × ℕ)) → AreFoundInTurn l.read (drop l.read l.bytes) others → AreFoundInTurn 0 l.bytes (l.found.items ++ others);
}

abbrev pub decreases-loop-place : goal.decreases-loop-place
decreases-loop-place l = length l.bytes - l.read
