use Rattle.std.proofs.Common.{◌≡◌, ◌+◌, ◌∙◌, arith, ap, slice_index}
use Rattle.encoding_definitions.specs.Surrogates.{HasUnpaired}
use Rattle.encoding_definitions.proofs.UnpairedCountLemmas.{HasUnpaired-within}
use Rattle.encoding_kernels.proofs.UnpairedLemmas.{low_bit, low_first, unpaired_sum}
use Rattle.encoding_kernels.proofs.utf16.unpaired.unpaired_of_units.Goals as goal

count_is : (c : goal.After-sum_from) → HasUnpaired c.args.units.now (c.from-first.result + c.sum_from.result)
count_is c =
    let us = c.args.units.now in
    let first : c.from-first.result ≡ low_bit (slice_index us 0) =
    c.from-first.ensures ∙ low_first c.is_low_surrogate.result c.unit_at.result (omega (arith, c.unit_at.type_inv)) c.is_low_surrogate.ensures
    ∙ ap low_bit c.unit_at.ensures in
    unpaired_sum us c.from-first.result c.sum_from.result (λ k. (c.type_inv.units k).fits) first c.sum_from.ensures

pub overflow_add-result : goal.overflow_add-result
overflow_add-result c =
    omega (arith, HasUnpaired-within c.args.units.now (c.from-first.result + c.sum_from.result) (count_is c))

pub returns : goal.returns
returns c = count_is c
