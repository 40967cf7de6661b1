use Rattle.std.proofs.Common.{◌+◌, ◌-◌, ◌*◌, length}
use Rattle.std.specs.Prelude.{if◌then◌else◌, ◌==◌}
use denote.Param.{number}
use Rattle.encoding_kernels.specs.UnitBytes.{bytes_in, units_of}
use Rattle.encoding_kernels.specs.Utf8Output.{WritesScalars}
use Rattle.encoding_kernels.specs.contracts.utf16_to_utf8.bytes.convert_up_to_unpaired.{BIG-type}
use Rattle.encoding_kernels.proofs.utf16_to_utf8.bytes.convert_up_to_unpaired.Given as goal

abbrev pub invariant-loop-read : goal.invariant-loop-read
invariant-loop-read g l = WritesScalars (units_of (BIG-type (number g.row.BIG)) (bytes_in l.src.pairs.now)) l.initial.dst l.dst l.read l.written

-- characters one by one, or blocks and then one
abbrev pub decreases-loop-read : goal.decreases-loop-read
decreases-loop-read g l =
    2 * (length (units_of (BIG-type (number g.row.BIG)) (bytes_in l.src.pairs.now)) - l.read) + (if l.singles == 0 then 1 else 0)
