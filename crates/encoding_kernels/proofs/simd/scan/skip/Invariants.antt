use Rattle.std.proofs.Common.{◌-◌, ◌≤◌}
use Rattle.encoding_kernels.specs.Scans.{PassBetween}
use Rattle.encoding_kernels.proofs.simd.scan.skip.Given as goal

abbrev pub invariant-loop-at : goal.invariant-loop-at
invariant-loop-at g l = record {
  within : (l.from ≤ l.at) × (l.at ≤ l.end);
  pass : PassBetween (g.T.Test.passes l.test) l.from l.at;
}

abbrev pub decreases-loop-at : goal.decreases-loop-at
decreases-loop-at g l = l.end - l.at
