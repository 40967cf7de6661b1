use Rattle.std.proofs.Common.{◌≡◌, ◌-◌, ◌≤◌, ◌↔◌, true, ◌∷◌, slice_index}
use Rattle.encoding_definitions.specs.Utf16.{IsHighSurrogate}
use Rattle.encoding_kernels.specs.Neighbors.{PairUp}
use Rattle.encoding_streams.proofs.utf16_decoder.paired.paired_prefix_of_few.Given as goal

abbrev pub invariant-loop-at : goal.invariant-loop-at
invariant-loop-at g l = record {
  within : l.at ≤ l.count;
  paired : PairUp (g.S.CodeUnits.units l.fn.src) 0 l.at;
  before : (l.follows_high ≡ true) ↔ IsHighSurrogate (slice_index (0 ∷ g.S.CodeUnits.units l.fn.src) l.at);
}

abbrev pub decreases-loop-at : goal.decreases-loop-at
decreases-loop-at g l = l.count - l.at
