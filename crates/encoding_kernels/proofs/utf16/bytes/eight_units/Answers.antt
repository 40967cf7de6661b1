use Rattle.std.proofs.lemmas.Simd.{Each1-from_get_or}
use Rattle.encoding_kernels.proofs.UnitBytesLemmas.{eight_of_little, eight_of_big}
use Rattle.encoding_kernels.proofs.utf16.bytes.eight_units.Goals as goal

pub returns-then-not-big : goal.returns-then-not-big
returns-then-not-big c =
    eight_of_little c.args.big c.if-not-big.true c.args.src.now c.args.at c.requires (Each1-from_get_or _ c.args.src.now 0 (λ i _. (c.type_inv.src i).fits))

pub returns : goal.returns
returns c =
    eight_of_big c.args.big c.if-not-big.false c.args.src.now c.args.at c.requires (Each1-from_get_or _ c.args.src.now 0 (λ i _. (c.type_inv.src i).fits))
