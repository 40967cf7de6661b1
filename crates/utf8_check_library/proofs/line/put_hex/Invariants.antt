use Rattle.std.proofs.Common.{◌≡◌, ◌+◌, ◌*◌, ◌++◌, take}
use Rattle.std.specs.List.{flat_map}
use Rattle.utf8_check_library.specs.Lines.{hex_of}
use Rattle.utf8_check_library.proofs.line.put_hex.Given as goal

abbrev pub invariant-loop-byte : goal.invariant-loop-byte
invariant-loop-byte l = record {
  index : l.at ≡ l.fn.at + 3 * l.byte-index;
  put : take l.at l.text ≡ take l.fn.at l.fn.text ++ flat_map hex_of (take l.byte-index l.bytes);
}
