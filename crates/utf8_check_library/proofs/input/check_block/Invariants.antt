use Rattle.std.proofs.Common.{◌≡◌, ◌+◌, ◌-◌, ◌++◌, ◌≤◌, length}
use Rattle.utf8_check_library.specs.declared.input.Mode.TheVariants as mode
use Rattle.utf8_check_library.proofs.CheckLemmas.{BlockSoFar}
use Rattle.utf8_check_library.proofs.input.check_block.Given as goal

abbrev pub invariant-loop-at : goal.invariant-loop-at
invariant-loop-at g l = record {
  checked : BlockSoFar (l.name, l.columns) l.mode (l.initial.place.line, l.initial.place.column) l.initial.search.1 (l.initial.search.0 ++ l.src) l.last
      (g.W.Write.contents l.initial.writer) l.src (g.W.Write.contents l.writer) l.at l.count l.search.0 (l.place.line, l.place.column) l.search.1;
  offset : l.search.1 + length l.search.0 ≡ l.initial.search.1 + length l.initial.search.0 + l.at;
  within : l.at ≤ length l.src;
  none : l.mode ≡ mode.Quiet → l.count ≡ 0;
}

abbrev pub decreases-loop-at : goal.decreases-loop-at
decreases-loop-at g l = length l.search.0 + (length l.src - l.at)
