use Rattle.std.proofs.Common.{◌+◌, ◌-◌, ◌*◌, ◌≤◌, ◌<◌}
use Rattle.encoding_kernels.specs.Neighbors.{PairUp}
use Rattle.encoding_streams.proofs.utf16_decoder.paired.paired_prefix.Given as goal

abbrev pub invariant-loop-at : goal.invariant-loop-at
invariant-loop-at g l = record {
  some : 0 < l.at;
  within : l.at ≤ l.count;
  paired : PairUp (g.S.CodeUnits.units l.fn.src) 0 l.at;
}

-- a turn that only skips blocks, maybe none, is followed by one that tests a stride
abbrev pub decreases-loop-at : goal.decreases-loop-at
decreases-loop-at g l = 2 * (l.count - l.at) + (1 - l.strides)
