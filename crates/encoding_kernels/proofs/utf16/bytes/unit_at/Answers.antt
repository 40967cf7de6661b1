use Rattle.std.proofs.Common.{◌+◌, ◌*◌, ◌∙◌}
use Rattle.encoding_kernels.proofs.UnitBytesLemmas.{unit_of_little, unit_of_big}
use Rattle.encoding_kernels.proofs.utf16.bytes.unit_at.Goals as goal

pub returns-then-big : goal.returns-then-big
returns-then-big c = (λ i. 0x100 * c.from-first.ensures i + c.from-second.ensures i) ∙ unit_of_big c.args.big c.if-big.true c.args.src.now c.args.at c.requires

pub returns : goal.returns
returns c = (λ i. c.from-first.ensures i + 0x100 * c.from-second.ensures i) ∙ unit_of_little c.args.big c.if-big.false c.args.src.now c.args.at c.requires
