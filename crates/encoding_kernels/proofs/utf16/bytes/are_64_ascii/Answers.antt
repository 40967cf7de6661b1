use Rattle.encoding_kernels.proofs.UnitBytesLemmas.{four_below}
use Rattle.encoding_kernels.proofs.utf16.bytes.are_64_ascii.Goals as goal

pub returns : goal.returns
returns c t = four_below c.args.big c.args.src.now _ _ _ _ c.args.at c.requires 0x80 c.sixteen_units-first.ensures c.sixteen_units-second.ensures
    c.sixteen_units-third.ensures c.sixteen_units-fourth.ensures (c.are_ascii.ensures t)
