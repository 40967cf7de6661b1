use Rattle.std.proofs.Common.{◌≡◌, ◌-◌, ◌*◌, ◌≤◌, false, length}
use Rattle.encoding_runs.proofs.BlockRepairLemmas.{BlockDone}
use Rattle.encoding_runs.proofs.repair.blocks.repair_block.Given as goal

abbrev pub invariant-loop-rest : goal.invariant-loop-rest
invariant-loop-rest l = record {
  done : BlockDone l.initial.decoder l.src l.last l.initial.dst l.dst l.block.read l.block.written l.block.replaced l.decoder;
  within : l.block.written ≤ length l.dst;
  three : 3 * l.block.replaced ≤ l.block.written;
  unfinished : l.block.finished ≡ false;
}

abbrev pub decreases-loop-rest : goal.decreases-loop-rest
decreases-loop-rest l = length l.initial.dst - l.block.written
