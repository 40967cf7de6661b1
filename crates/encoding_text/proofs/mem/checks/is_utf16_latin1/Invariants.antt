use Rattle.std.proofs.Common.{◌≡◌, ◌*◌, ◌↔◌, IsTrue}
use Rattle.encoding_kernels.specs.Scans.{BelowUpTo}
use Rattle.encoding_text.proofs.mem.checks.is_utf16_latin1.Given as goal

abbrev pub invariant-loop-four : goal.invariant-loop-four
invariant-loop-four l = record { place : l.at ≡ l.four-index * 64; below : BelowUpTo 0x100 l.buffer l.at }

abbrev pub invariant-loop-i : goal.invariant-loop-i
invariant-loop-i l = record { place : l.at ≡ l.i * 16; below : BelowUpTo 0x100 l.buffer l.at }

abbrev pub invariant-loop-i-2 : goal.invariant-loop-i-2
invariant-loop-i-2 l = IsTrue l.is_latin1 ↔ BelowUpTo 0x100 l.buffer l.i
