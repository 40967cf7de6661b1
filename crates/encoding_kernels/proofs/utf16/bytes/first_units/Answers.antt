use Rattle.std.proofs.Common.{◌∙◌, ap, arith, sym, length-take-le}
use Rattle.encoding_kernels.specs.UnitBytes.{units_of, bytes_in}
use Rattle.encoding_kernels.proofs.UnitBytesLemmas.{pairs_within, bytes_in-take, units_of-take}
use Rattle.encoding_kernels.proofs.utf16.bytes.first_units.Goals as goal

pub slice_bounds-result-end : goal.slice_bounds-result-end
slice_bounds-result-end c =
    sym (length-take-le c.args.count c.args.pairs.now (omega (arith, pairs_within c.args.big c.args.pairs.now c.told-pairs, c.requires)))

pub returns : goal.returns
returns c =
    let pairs = c.args.pairs.now in
    ap (units_of c.args.big) (bytes_in-take c.args.count pairs c.told-pairs (omega (arith, pairs_within c.args.big pairs c.told-pairs, c.requires)))
    ∙ units_of-take c.args.big c.args.count (bytes_in pairs)
