use Rattle.std.proofs.Common.{◌≡◌, ◌+◌, ◌≤◌, drop}
use Rattle.utf8_check_library.specs.Lines.{line_feeds}
use Rattle.utf8_check_library.proofs.place.count_in_span.Given as goal

abbrev pub invariant-loop-byte : goal.invariant-loop-byte
invariant-loop-byte l = record {
  counted : l.count + line_feeds (drop l.byte-index l.bytes) ≡ line_feeds l.bytes;
  few : l.count ≤ l.byte-index;
}
