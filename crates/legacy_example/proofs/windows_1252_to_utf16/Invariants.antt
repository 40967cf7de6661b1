use Rattle.std.proofs.Common.{◌-◌, ◌≤◌, length, take, map}
use Rattle.encoding_text.specs.Prefixes.{WritesPrefix}
use Rattle.legacy_example.specs.Windows1252.{scalar_of}
use Rattle.legacy_example.proofs.windows_1252_to_utf16.Given as goal

abbrev pub invariant-loop-at : goal.invariant-loop-at
invariant-loop-at l = record { within : l.at ≤ length l.src; written : WritesPrefix l.fn.dst l.dst l.at (map scalar_of (take l.at l.src)) }

abbrev pub decreases-loop-at : goal.decreases-loop-at
decreases-loop-at l = length l.src - l.at
