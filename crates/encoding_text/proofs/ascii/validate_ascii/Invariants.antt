use Rattle.std.proofs.Common.{◌≡◌, ◌*◌}
use Rattle.encoding_kernels.specs.Scans.{BelowUpTo}
use Rattle.encoding_text.proofs.ascii.validate_ascii.Given as goal

abbrev pub invariant-loop-sixteen : goal.invariant-loop-sixteen
invariant-loop-sixteen l = record { place : l.at ≡ l.sixteen-index * 256; below : BelowUpTo 0x80 l.bytes l.at }

abbrev pub invariant-loop-i : goal.invariant-loop-i
invariant-loop-i l = record { place : l.at ≡ l.i * 64; below : BelowUpTo 0x80 l.bytes l.at }

abbrev pub invariant-loop-i-2 : goal.invariant-loop-i-2
invariant-loop-i-2 l = record { place : l.at ≡ l.i * 16; below : BelowUpTo 0x80 l.bytes l.at }

abbrev pub invariant-loop-i-3 : goal.invariant-loop-i-3
invariant-loop-i-3 l = BelowUpTo 0x80 l.bytes l.i
