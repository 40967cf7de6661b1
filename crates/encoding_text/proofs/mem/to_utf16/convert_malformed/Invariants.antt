use Rattle.std.proofs.Common.{◌+◌, ◌-◌, ◌<◌, ◌≤◌, length, drop}
use Rattle.encoding_definitions.specs.Parts.{BeginsWithNoCharacter}
use Rattle.encoding_text.proofs.RepairingLemmas.{ReplacedSome}
use Rattle.encoding_text.proofs.mem.to_utf16.convert_malformed.Given as goal

abbrev pub invariant-loop-length : goal.invariant-loop-length
invariant-loop-length l = record {
  replaced : ReplacedSome l.src l.initial.dst l.dst l.read l.written;
  none : BeginsWithNoCharacter (drop l.read l.src);
  within : l.read ≤ length l.src;
  room : l.written + (length l.src - l.read) < length l.dst;
}

abbrev pub decreases-loop-length : goal.decreases-loop-length
decreases-loop-length l = length l.initial.src - l.read
