use Rattle.std.proofs.Common.{◌≡◌, ◌+◌, ◌-◌, ◌^◌, length}
use Rattle.utf8_check_library.specs.declared.input.Mode.TheVariants as mode
use Rattle.utf8_check_library.proofs.CheckLemmas.{InputSoFar}
use Rattle.utf8_check_library.proofs.input.check.Given as goal

abbrev pub invariant-loop-columns : goal.invariant-loop-columns
invariant-loop-columns g l = record {
  checked : InputSoFar (l.name, l.columns) l.mode (g.R.Read.remaining l.initial.reader) (g.R.Read.remaining l.reader)
      (g.W.Write.contents l.initial.writer) (g.W.Write.contents l.writer) l.total l.search.0 (l.place.line, l.place.column) l.search.1;
  none : l.mode ≡ mode.Quiet → l.total ≡ 0;
}

abbrev pub decreases-loop-columns : goal.decreases-loop-columns
decreases-loop-columns g l = 2 ^ 64 - (l.search.1 + length l.search.0)
