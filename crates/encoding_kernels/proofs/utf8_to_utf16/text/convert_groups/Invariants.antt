use Rattle.std.proofs.Common.{◌-◌, length}
use Rattle.encoding_kernels.proofs.Utf8ToUtf16LoopLemmas.{Putting}
use Rattle.encoding_kernels.proofs.utf8_to_utf16.text.convert_groups.Given as goal

abbrev pub invariant-loop-read : goal.invariant-loop-read
invariant-loop-read l = Putting l.src l.fn.dst l.dst l.read l.written

abbrev pub decreases-loop-read : goal.decreases-loop-read
decreases-loop-read l = length l.initial.src - l.read
