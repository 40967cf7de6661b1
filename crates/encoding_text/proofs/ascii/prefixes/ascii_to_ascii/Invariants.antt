use Rattle.std.proofs.Common.{◌≡◌, ◌*◌, take}
use Rattle.encoding_definitions.specs.Prefixes.{WritesPrefix}
use Rattle.encoding_kernels.specs.Scans.{BelowUpTo}
use Rattle.encoding_text.proofs.ascii.prefixes.ascii_to_ascii.Given as goal

abbrev pub invariant-loop-four : goal.invariant-loop-four
invariant-loop-four l = record {
  place : l.at ≡ l.four-index * 64;
  below : BelowUpTo 0x80 l.fitting l.at;
  copied : WritesPrefix l.fn.dst l.dst l.at (take l.at l.fitting);
}

abbrev pub invariant-loop-i : goal.invariant-loop-i
invariant-loop-i l = record {
  place : l.at ≡ l.i * 16;
  below : BelowUpTo 0x80 l.fitting l.at;
  copied : WritesPrefix l.fn.dst l.dst l.at (take l.at l.fitting);
}

abbrev pub invariant-loop-i-2 : goal.invariant-loop-i-2
invariant-loop-i-2 l = record { below : BelowUpTo 0x80 l.fitting l.i; copied : WritesPrefix l.fn.dst l.dst l.i (take l.i l.fitting) }
