use Rattle.std.proofs.Common.{◌≡◌, ◌+◌, ◌-◌, ◌≤◌, false, length}
use Rattle.encoding_runs.proofs.SearchLemmas.{SearchDone}
use Rattle.encoding_runs.proofs.search.search_block.Given as goal

abbrev pub invariant-loop-block : goal.invariant-loop-block
invariant-loop-block l = record {
  done : SearchDone l.initial.search.0 l.initial.search.1 l.src l.last l.initial.found l.found l.block.read l.block.found l.search.0;
  offset : l.search.1 + length l.search.0 ≡ l.initial.search.1 + length l.initial.search.0 + l.block.read;
  within : l.block.found ≤ length l.found;
  unfinished : l.block.finished ≡ false;
}

abbrev pub decreases-loop-block : goal.decreases-loop-block
decreases-loop-block l = length l.search.0 + (length l.src - l.block.read)
