use Rattle.std.proofs.Common.{◌∙◌, ap, arith}
use Rattle.std.proofs.lemmas.List.{take_rest}
use Rattle.std.proofs.Common.{sym}
use Rattle.encoding_kernels.specs.UnitBytes.{units_of, bytes_in}
use Rattle.encoding_kernels.proofs.UnitBytesLemmas.{pairs_within, bytes_in-drop, units_of-drop}
use Rattle.encoding_kernels.proofs.utf16.bytes.skip_units.Goals as goal

pub offset_bounds-pairs-at : goal.offset_bounds-pairs-at
offset_bounds-pairs-at c = omega (arith, c.well_formed.1.0.1, pairs_within c.args.big c.args.pairs.now c.told-pairs, c.requires)

pub slice_bounds-result-count : goal.slice_bounds-result-count
slice_bounds-result-count c = omega (arith, pairs_within c.args.big c.args.pairs.now c.told-pairs, c.requires)

pub slice_bounds-result-start : goal.slice_bounds-result-start
slice_bounds-result-start c = omega (arith, pairs_within c.args.big c.args.pairs.now c.told-pairs, c.requires)

pub returns : goal.returns
returns c =
    let pairs = c.args.pairs.now in
    let us = units_of c.args.big (bytes_in pairs) in
    ap (λ ps. units_of c.args.big (bytes_in ps)) (take_rest pairs c.args.at)
    ∙ ap (units_of c.args.big) (bytes_in-drop c.args.at pairs c.told-pairs (omega (arith, pairs_within c.args.big pairs c.told-pairs, c.requires)))
    ∙ units_of-drop c.args.big c.args.at (bytes_in pairs) ∙ sym (take_rest us c.args.at)
