use Rattle.std.proofs.Common.{◌-◌, ◌≤◌, length, take}
use Rattle.encoding_definitions.specs.Latin1.{IsUtf8Latin1}
use Rattle.encoding_text.proofs.mem.checks.longest_latin1.Given as goal

abbrev pub invariant-loop-read : goal.invariant-loop-read
invariant-loop-read l = record { within : l.read ≤ length l.buffer; latin1 : IsUtf8Latin1 (take l.read l.buffer) }

abbrev pub decreases-loop-read : goal.decreases-loop-read
decreases-loop-read l = length l.buffer - l.read
