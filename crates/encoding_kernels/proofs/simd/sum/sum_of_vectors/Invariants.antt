use Rattle.std.proofs.Common.{◌≡◌, ◌+◌, ◌-◌, ◌*◌, ◌≤◌, drop, length}
use Rattle.std.specs.Simd.Lanes.{Each1, sum_l}
use Rattle.encoding_kernels.specs.Lengths.{sum_over_suffixes}
use Rattle.encoding_kernels.proofs.simd.sum.sum_of_vectors.Given as goal

abbrev pub invariant-loop-place : goal.invariant-loop-place
invariant-loop-place g l = record {
  within : (l.at ≤ l.place) × (l.place ≤ l.stop);
  long : length l.sums ≡ g.row.N;
  lanes : Each1 (λ a. a * g.row.N + 2 * l.at ≤ 2 * l.place) l.sums;
  sum : sum_l l.sums + sum_over_suffixes (g.T.Terms.term l.terms) (drop l.place (g.T.Terms.text l.terms)) ≡ sum_over_suffixes (g.T.Terms.term l.terms)
      (drop l.at (g.T.Terms.text l.terms));
}

abbrev pub decreases-loop-place : goal.decreases-loop-place
decreases-loop-place g l = l.stop - l.place
