use Rattle.std.proofs.Common.{◌-◌, List, length}
use Rattle.encoding_definitions.specs.Utf16.{AreCodeUnits, Part16}
use Rattle.encoding_definitions.proofs.SurrogateLemmas.{Repaired}
use Rattle.encoding_text.proofs.mem.surrogates.ensure_utf16_validity.Given as goal

abbrev pub invariant-loop-at : goal.invariant-loop-at
invariant-loop-at l = record {
  units : AreCodeUnits l.fn.buffer;
  done : List Part16;
  so_far : Repaired l.fn.buffer l.buffer l.at done;
}

abbrev pub decreases-loop-at : goal.decreases-loop-at
decreases-loop-at l = length l.buffer - l.at
