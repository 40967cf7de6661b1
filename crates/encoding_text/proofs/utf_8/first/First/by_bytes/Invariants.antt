use Rattle.std.proofs.Common.{◌-◌, ◌<◌, ◌≤◌, length, take}
use Rattle.encoding_definitions.specs.Sequence.{IsSequence, IsIncomplete}
use Rattle.encoding_text.proofs.utf_8.first.First.by_bytes.Given as goal

abbrev pub invariant-loop-known : goal.invariant-loop-known
invariant-loop-known l = record {
  some : 0 < l.known;
  within : l.known ≤ length l.bytes;
  at_most : l.known ≤ l.length;
  begun : l.known < l.length → IsIncomplete (take l.known l.bytes);
  whole : l.length ≤ l.known → (1 < l.known) × IsSequence (take l.known l.bytes);
}

abbrev pub decreases-loop-known : goal.decreases-loop-known
decreases-loop-known l = l.length - l.known
