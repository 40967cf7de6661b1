use Rattle.std.proofs.Common.{◌≡◌, ◌+◌, ◌-◌, ◌≤◌, length}
use Rattle.encoding_definitions.specs.Sequence.{IsPending}
use Rattle.encoding_c.proofs.SearchStateLemmas.{StoredSo}
use Rattle.encoding_c.proofs.search.search_into.Given as goal

abbrev pub invariant-loop-count : goal.invariant-loop-count
invariant-loop-count l = record {
  pending : IsPending l.initial.search.0;
  done : StoredSo l.initial.search.0 l.initial.search.1 l.src l.last l.initial.found l.found l.read l.count l.search.0;
  offset : l.search.1 + length l.search.0 ≡ l.initial.search.1 + length l.initial.search.0 + l.read;
  within : l.count ≤ length l.found;
  read_within : l.read ≤ length l.src;
}

abbrev pub decreases-loop-count : goal.decreases-loop-count
decreases-loop-count l = length l.found - l.count
