use Rattle.encoding_text.proofs.Utf16BytesLemmas.{DecodesUnits}
use Rattle.encoding_text.proofs.utf_16.decode_utf16_bytes.Given as goal

abbrev pub invariant-loop-i : goal.invariant-loop-i
invariant-loop-i l = DecodesUnits l.order l.src l.fn.dst l.dst l.i
