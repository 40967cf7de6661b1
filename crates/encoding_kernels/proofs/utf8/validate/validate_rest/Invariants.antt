use Rattle.std.proofs.Common.{◌≤◌, ◌-◌, length}
use Rattle.encoding_kernels.specs.Following.{ValidUpTo}
use Rattle.encoding_kernels.proofs.utf8.validate.validate_rest.Given as goal

abbrev pub invariant-loop-at : goal.invariant-loop-at
invariant-loop-at l = record {
  started : 64 ≤ l.at;
  within : l.at ≤ length l.src;
  prefix : ValidUpTo l.src l.at;
}

abbrev pub decreases-loop-at : goal.decreases-loop-at
decreases-loop-at l = length l.src - l.at
