use Rattle.std.proofs.Common.{◌-◌, ◌≤◌, length, take, map, encode_utf8_all}
use Rattle.encoding_text.specs.Prefixes.{WritesPrefix}
use Rattle.legacy_example.specs.Windows1252.{scalar_of}
use Rattle.legacy_example.proofs.windows_1252_to_utf8.Given as goal

abbrev pub invariant-loop-read : goal.invariant-loop-read
invariant-loop-read l = record {
  within : l.read ≤ length l.src;
  written : WritesPrefix l.fn.dst l.dst l.written (encode_utf8_all (map scalar_of (take l.read l.src)));
}

abbrev pub decreases-loop-read : goal.decreases-loop-read
decreases-loop-read l = length l.src - l.read
