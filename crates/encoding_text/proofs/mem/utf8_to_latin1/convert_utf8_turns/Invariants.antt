use Rattle.std.proofs.Common.{◌≡◌, ◌-◌, ◌≤◌, length, take, drop, encode_utf8_all}
use Rattle.std.specs.Str.{chars}
use Rattle.encoding_definitions.specs.Prefixes.{WritesPrefix}
use Rattle.encoding_text.proofs.mem.utf8_to_latin1.convert_utf8_turns.Given as goal

abbrev pub invariant-loop-read : goal.invariant-loop-read
invariant-loop-read l = record {
  within : l.read ≤ length l.src;
  rest : drop l.read l.src ≡ encode_utf8_all (drop l.written (chars l.src));
  written : WritesPrefix l.fn.dst l.dst l.written (take l.written (chars l.src));
}

abbrev pub decreases-loop-read : goal.decreases-loop-read
decreases-loop-read l = length l.src - l.read
