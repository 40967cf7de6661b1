use Rattle.std.proofs.Common.{◌*◌, take}
use Rattle.encoding_definitions.specs.Prefixes.{WritesPrefix}
use Rattle.encoding_text.specs.Utf16Bytes.{utf16_bytes}
use Rattle.encoding_text.proofs.utf_16.encode_utf16_bytes.Given as goal

abbrev pub invariant-loop-i : goal.invariant-loop-i
invariant-loop-i l = WritesPrefix l.fn.dst l.dst (2 * l.i) (utf16_bytes l.order (take l.i l.src))
