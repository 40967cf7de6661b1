use Rattle.std.proofs.Common.{◌≡◌, ◌≤◌, drop, length}
use Rattle.utf8_check_library.specs.Lines.{line_feeds}
use Rattle.utf8_check_library.proofs.place.after_last_line_feed.Given as goal

abbrev pub invariant-loop-start : goal.invariant-loop-start
invariant-loop-start l = record {
  within : l.start ≤ length l.bytes;
  none : line_feeds (drop l.start l.bytes) ≡ 0;
}

abbrev pub decreases-loop-start : goal.decreases-loop-start
decreases-loop-start l = l.start
