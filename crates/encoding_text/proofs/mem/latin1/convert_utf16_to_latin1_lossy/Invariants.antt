use Rattle.std.proofs.Common.{◌≡◌, ℕ, ◌*◌, ◌%◌, map, take}
use Rattle.encoding_definitions.specs.Prefixes.{WritesPrefix}
use Rattle.encoding_text.proofs.mem.latin1.convert_utf16_to_latin1_lossy.Given as goal

abbrev pub invariant-loop-stride : goal.invariant-loop-stride
invariant-loop-stride l = record {
  place : l.at ≡ l.stride-index * 16;
  copied : WritesPrefix l.fn.dst l.dst l.at (map (λ (unit : ℕ). unit % 0x100) (take l.at l.src));
}

abbrev pub invariant-loop-i : goal.invariant-loop-i
invariant-loop-i l = WritesPrefix l.fn.dst l.dst l.i (map (λ (unit : ℕ). unit % 0x100) (take l.i l.src))
