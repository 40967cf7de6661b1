use Rattle.std.proofs.Common.{arith}
use Rattle.encoding_definitions.proofs.Utf16Lemmas.{parts_of, parts_exist}
use Rattle.encoding_kernels.proofs.CountLemmas.{parts16_total}
use Rattle.encoding_kernels.proofs.utf16.count.parts_of_units.Goals as goal

pub overflow_sub-result : goal.overflow_sub-result
overflow_sub-result c =
    let us = c.args.units.now in
    let are = parts_exist us (λ k. (c.type_inv.units k).fits) in
    omega (arith, c.sum_from.ensures, parts16_total us (parts_of us) are)

pub returns : goal.returns
returns c =
    let us = c.args.units.now in
    let are = parts_exist us (λ k. (c.type_inv.units k).fits) in
    (parts_of us, are, omega (arith, c.sum_from.ensures, parts16_total us (parts_of us) are))
