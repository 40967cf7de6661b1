use Rattle.std.proofs.Common.{◌-◌, length}
use Rattle.encoding_kernels.specs.Utf8Output.{WritesScalars}
use Rattle.encoding_kernels.proofs.utf16_to_utf8.text.convert_paired_blocks.Given as goal

abbrev pub invariant-loop-read : goal.invariant-loop-read
invariant-loop-read g l = WritesScalars (g.S.CodeUnits.units l.src) l.initial.dst l.dst l.read l.written

abbrev pub decreases-loop-read : goal.decreases-loop-read
decreases-loop-read g l = length (g.S.CodeUnits.units l.src) - l.read
