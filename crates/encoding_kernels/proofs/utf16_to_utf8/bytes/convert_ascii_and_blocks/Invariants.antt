use Rattle.std.proofs.Common.{◌-◌, length}
use denote.Param.{number}
use Rattle.encoding_kernels.specs.UnitBytes.{bytes_in, units_of}
use Rattle.encoding_kernels.specs.Utf8Output.{WritesBmp}
use Rattle.encoding_kernels.specs.contracts.utf16_to_utf8.bytes.convert_ascii_and_blocks.{BIG-type}
use Rattle.encoding_kernels.proofs.utf16_to_utf8.bytes.convert_ascii_and_blocks.Given as goal

abbrev pub invariant-loop-read : goal.invariant-loop-read
invariant-loop-read g l = WritesBmp (units_of (BIG-type (number g.row.BIG)) (bytes_in l.src.pairs.now)) l.initial.dst l.dst l.read l.written

abbrev pub decreases-loop-read : goal.decreases-loop-read
decreases-loop-read g l = length (units_of (BIG-type (number g.row.BIG)) (bytes_in l.src.pairs.now)) - l.read
