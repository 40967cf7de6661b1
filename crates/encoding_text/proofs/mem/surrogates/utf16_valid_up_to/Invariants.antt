use Rattle.std.proofs.Common.{◌≡◌, ◌-◌, ◌*◌, ◌≤◌, length, take}
use Rattle.encoding_definitions.specs.Surrogates.{IsValidUtf16}
use Rattle.encoding_kernels.specs.Neighbors.{PairUp}
use Rattle.encoding_text.proofs.mem.surrogates.utf16_valid_up_to.Given as goal

abbrev pub invariant-loop-four : goal.invariant-loop-four
invariant-loop-four l = record { place : l.at ≡ l.four-index * 64; paired : PairUp l.buffer 0 l.at }

abbrev pub invariant-loop-i : goal.invariant-loop-i
invariant-loop-i l = record { place : l.at ≡ l._i * 16; paired : PairUp l.buffer 0 l.at }

abbrev pub invariant-loop-at : goal.invariant-loop-at
invariant-loop-at l = record { within : l.at ≤ length l.buffer; valid : IsValidUtf16 (take l.at l.buffer) }

abbrev pub decreases-loop-at : goal.decreases-loop-at
decreases-loop-at l = length l.buffer - l.at
