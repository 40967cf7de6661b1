use Rattle.std.proofs.Common.{◌-◌, length}
use Rattle.encoding_kernels.proofs.Utf8ToUtf16LoopLemmas.{Unpacked}
use Rattle.encoding_text.proofs.ascii.prefixes.copy_prefix_of_text.Given as goal

abbrev pub invariant-loop-at : goal.invariant-loop-at
invariant-loop-at l = Unpacked l.src l.fn.dst l.dst l.at

abbrev pub decreases-loop-at : goal.decreases-loop-at
decreases-loop-at l = length l.initial.src - l.at

abbrev pub invariant-loop-at-2 : goal.invariant-loop-at-2
invariant-loop-at-2 l = Unpacked l.src l.fn.dst l.dst l.at

abbrev pub decreases-loop-at-2 : goal.decreases-loop-at-2
decreases-loop-at-2 l = length l.initial.src - l.at
