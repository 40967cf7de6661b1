use Rattle.std.proofs.Common.{◌≤◌, ◌-◌, length, take}
use Rattle.std.specs.Str.{IsUtf8}
use Rattle.encoding_text.proofs.utf_8.validate.valid_after.Given as goal

abbrev pub invariant-loop-length : goal.invariant-loop-length
invariant-loop-length l = record { within : l.at ≤ length l.src; text : IsUtf8 (take l.at l.src) }

abbrev pub decreases-loop-length : goal.decreases-loop-length
decreases-loop-length l = length l.initial.src - l.at
