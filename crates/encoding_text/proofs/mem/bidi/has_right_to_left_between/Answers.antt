use Rattle.std.proofs.Common.{arith, subst}
use Rattle.encoding_kernels.specs.RightToLeft.{NoRtlIn}
use Rattle.encoding_text.proofs.mem.bidi.has_right_to_left_between.Goals as goal

pub returns-clause-no_right_to_left : goal.returns-clause-no_right_to_left
returns-clause-no_right_to_left c = λ _. subst (NoRtlIn c.args.bytes.now c.args.from) {x = c.loop-at.at} {y = c.args.to} (omega arith) c.loop-at.invariant
