use Rattle.std.proofs.Common.{◌-◌, ◌≤◌, take, length}
use Rattle.encoding_definitions.specs.Prefixes.{WritesPrefix}
use Rattle.encoding_kernels.specs.Scans.{BelowUpTo}
use Rattle.encoding_text.proofs.ascii.prefixes.pack_blocks.Given as goal

abbrev pub invariant-loop-at : goal.invariant-loop-at
invariant-loop-at l = record {
  within : l.at ≤ length l.src;
  below : BelowUpTo 0x80 l.src l.at;
  copied : WritesPrefix l.fn.dst l.dst l.at (take l.at l.src);
}

abbrev pub decreases-loop-at : goal.decreases-loop-at
decreases-loop-at l = length l.src - l.at
