use Rattle.std.proofs.Common.{◌-◌, ◌≤◌, length}
use Rattle.std.specs.Char.Escape.{encode_utf16}
use Rattle.encoding_text.specs.Steps.{ConvertsSome}
use Rattle.encoding_text.proofs.utf_8.to_utf16.convert_turns.Given as goal

abbrev pub invariant-loop-read : goal.invariant-loop-read
invariant-loop-read l = record { converted : ConvertsSome encode_utf16 l.src l.fn.dst l.dst l.read l.written; after : l.ascii ≤ l.written }

abbrev pub decreases-loop-read : goal.decreases-loop-read
decreases-loop-read l = length l.initial.src - l.read
