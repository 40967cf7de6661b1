use Rattle.std.proofs.Common.{◌*◌, ◌+◌}
use Rattle.encoding_kernels.specs.EndingUnits.{StoresUnits}
use Rattle.encoding_kernels.proofs.utf8_to_utf16.text.write_group.Given as goal

abbrev pub invariant-loop-stride : goal.invariant-loop-stride
invariant-loop-stride g l = StoresUnits l.src l.fn.dst l.dst (16 * l.stride) l.written (l.written + 8)
