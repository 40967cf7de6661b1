use Rattle.std.proofs.Common.{arith}
use Rattle.encoding_kernels.proofs.CompressTableLemmas.{unit_table, row_small, units_few, units_keep}
use Rattle.encoding_kernels.proofs.simd.compress.unit_places_by.Goals as goal

pub returns-clause-within : goal.returns-clause-within
returns-clause-within c k l =
    row_small _ _ unit_table c.args.mask c.unit_places_word.result c.unit_places_word-2.result c.unit_places_word-3.result c.unit_places_word-count.result
    c.unit_places_word.ensures c.unit_places_word-2.ensures c.unit_places_word-3.ensures c.unit_places_word-count.ensures c.requires k

pub returns-clause-length_bound : goal.returns-clause-length_bound
returns-clause-length_bound c = omega (arith, units_few c.args.mask c.unit_places_word-count.result c.unit_places_word-count.ensures c.requires)

pub returns-clause-kept : goal.returns-clause-kept
returns-clause-kept c = units_keep c.args.mask _ _ _ _ c.unit_places_word.ensures c.unit_places_word-2.ensures c.unit_places_word-3.ensures
    c.unit_places_word-count.ensures
