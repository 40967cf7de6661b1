use Rattle.std.proofs.Common.{◌-◌, ◌≤◌, length, take, encode_utf8_all}
use Rattle.encoding_definitions.specs.Prefixes.{WritesPrefix}
use Rattle.encoding_text.proofs.mem.latin1.convert_latin1_turns.Given as goal

abbrev pub invariant-loop-read : goal.invariant-loop-read
invariant-loop-read l = record {
  within : l.read ≤ length l.src;
  onward : l.to ≤ l.written;
  written : WritesPrefix l.fn.dst l.dst l.written (encode_utf8_all (take l.read l.src));
}

abbrev pub decreases-loop-read : goal.decreases-loop-read
decreases-loop-read l = length l.src - l.read
