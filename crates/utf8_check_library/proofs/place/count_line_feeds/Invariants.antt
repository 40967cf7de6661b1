use Rattle.std.proofs.Common.{◌≡◌, ◌+◌, ◌-◌, ◌≤◌, drop, length}
use Rattle.utf8_check_library.specs.Lines.{line_feeds}
use Rattle.utf8_check_library.proofs.place.count_line_feeds.Given as goal

abbrev pub invariant-loop-at : goal.invariant-loop-at
invariant-loop-at l = record {
  counted : l.count + line_feeds (drop l.at l.bytes) ≡ line_feeds l.bytes;
  few : l.count ≤ l.at;
  within : l.at ≤ length l.bytes;
}

abbrev pub decreases-loop-at : goal.decreases-loop-at
decreases-loop-at l = length l.bytes - l.at
