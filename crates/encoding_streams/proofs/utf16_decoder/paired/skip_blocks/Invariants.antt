use Rattle.std.proofs.Common.{◌-◌, ◌≤◌}
use Rattle.encoding_kernels.specs.Neighbors.{PairUp}
use Rattle.encoding_streams.proofs.utf16_decoder.paired.skip_blocks.Given as goal

abbrev pub invariant-loop-end : goal.invariant-loop-end
invariant-loop-end g l = record {
  from : l.fn.at ≤ l.end;
  within : l.end ≤ l.count;
  paired : PairUp (g.S.CodeUnits.units l.fn.src) 0 l.end;
}

abbrev pub decreases-loop-end : goal.decreases-loop-end
decreases-loop-end g l = l.count - l.end
