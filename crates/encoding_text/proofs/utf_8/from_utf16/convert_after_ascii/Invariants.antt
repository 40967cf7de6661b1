use Rattle.std.proofs.Common.{◌+◌, ◌-◌, ◌*◌, ◌≤◌, List, length}
use Rattle.std.specs.Prelude.{if◌then◌else◌, ◌==◌}
use Rattle.std.specs.List.{flat_map}
use Rattle.encoding_definitions.specs.Prefixes.{WritesPrefix}
use Rattle.encoding_definitions.specs.Utf16.{Part16, utf8_of_part16}
use Rattle.encoding_definitions.proofs.Utf16PrefixLemmas.{Walked}
use Rattle.encoding_text.proofs.utf_8.from_utf16.convert_after_ascii.Given as goal

abbrev pub invariant-loop-read : goal.invariant-loop-read
invariant-loop-read l = record {
  within : l.read ≤ length l.src;
  done : List Part16;
  walked : Walked l.src l.read done;
  written : WritesPrefix l.initial.dst l.dst l.written (flat_map utf8_of_part16 done);
  after : l.ascii ≤ l.written;
}

-- characters one by one, or blocks and then one
abbrev pub decreases-loop-read : goal.decreases-loop-read
decreases-loop-read l = 2 * (length l.src - l.read) + (if l.singles == 0 then 1 else 0)
