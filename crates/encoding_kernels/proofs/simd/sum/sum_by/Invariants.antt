use Rattle.std.proofs.Common.{◌≡◌, ◌+◌, ◌-◌, ◌≤◌, drop}
use Rattle.encoding_kernels.specs.Lengths.{sum_over_suffixes}
use Rattle.encoding_kernels.proofs.simd.sum.sum_by.Given as goal

abbrev pub invariant-loop-at : goal.invariant-loop-at
invariant-loop-at g l = record {
  within : (l.from ≤ l.at) × (l.at ≤ l.end);
  sum : l.sum + sum_over_suffixes (g.T.Terms.term l.terms) (drop l.at (g.T.Terms.text l.terms)) ≡ sum_over_suffixes (g.T.Terms.term l.terms)
      (drop l.from (g.T.Terms.text l.terms));
}

abbrev pub decreases-loop-at : goal.decreases-loop-at
decreases-loop-at g l = l.end - l.at
