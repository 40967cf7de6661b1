use Rattle.std.proofs.Common.{◌≡◌, ◌*◌, take}
use Rattle.encoding_definitions.specs.Prefixes.{WritesPrefix}
use Rattle.encoding_text.proofs.mem.latin1.convert_latin1_to_utf16.Given as goal

abbrev pub invariant-loop-stride : goal.invariant-loop-stride
invariant-loop-stride l = record { place : l.at ≡ l.stride-index * 16; copied : WritesPrefix l.fn.dst l.dst l.at (take l.at l.src) }

abbrev pub invariant-loop-i : goal.invariant-loop-i
invariant-loop-i l = WritesPrefix l.fn.dst l.dst l.i (take l.i l.src)
