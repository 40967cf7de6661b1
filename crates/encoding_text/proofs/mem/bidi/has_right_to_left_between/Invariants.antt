use Rattle.encoding_kernels.specs.RightToLeft.{NoRtlIn}
use Rattle.encoding_text.proofs.mem.bidi.has_right_to_left_between.Given as goal

abbrev pub invariant-loop-at : goal.invariant-loop-at
invariant-loop-at l = NoRtlIn l.bytes l.from l.at
