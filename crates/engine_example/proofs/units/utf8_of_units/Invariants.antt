use Rattle.std.proofs.Common.{◌≤◌, ◌++◌, ◌-◌, List, ℕ, length, drop}
use Rattle.encoding_runs.specs.Calls.{WritesInTurn}
use Rattle.engine_example.proofs.units.utf8_of_units.Given as goal

-- what writes the rest writes all, after what is written
abbrev pub invariant-loop-read : goal.invariant-loop-read
invariant-loop-read l = (l.read ≤ length l.units) × ((rooms out : List ℕ) → WritesInTurn (drop l.read l.units) rooms out
    → (all : List ℕ) × WritesInTurn l.units all (l.bytes.items ++ out))

abbrev pub decreases-loop-read : goal.decreases-loop-read
decreases-loop-read l = length l.units - l.read
