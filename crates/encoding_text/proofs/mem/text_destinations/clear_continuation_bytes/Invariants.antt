use Rattle.std.proofs.Common.{◌≡◌, ◌-◌, ◌≤◌, ◌++◌, length, drop}
use Rattle.std.specs.Prelude.{replicate}
use Rattle.encoding_definitions.specs.Clearing.{clear_continuation}
use Rattle.encoding_text.proofs.mem.text_destinations.clear_continuation_bytes.Given as goal

abbrev pub invariant-loop-at : goal.invariant-loop-at
invariant-loop-at l = record {
  within : l.at ≤ length l.fn.bytes;
  cleared : l.bytes ≡ replicate l.at 0 ++ drop l.at l.fn.bytes;
  left : clear_continuation l.fn.bytes ≡ replicate l.at 0 ++ clear_continuation (drop l.at l.fn.bytes);
}

abbrev pub decreases-loop-at : goal.decreases-loop-at
decreases-loop-at l = length l.initial.bytes - l.at
