use Rattle.encoding_kernels.proofs.CompressTableLemmas.{kept_table, row_small, row_keeps}
use Rattle.encoding_kernels.proofs.simd.compress.places_by.Goals as goal

pub returns-clause-within : goal.returns-clause-within
returns-clause-within c k l =
    row_small _ _ kept_table c.args.mask c.places_word.result c.places_word-2.result c.places_word-3.result c.places_word-4.result c.places_word.ensures
    c.places_word-2.ensures c.places_word-3.ensures c.places_word-4.ensures c.requires k

pub returns-clause-kept : goal.returns-clause-kept
returns-clause-kept c =
    row_keeps _ _ kept_table c.args.mask c.places_word.result c.places_word-2.result c.places_word-3.result c.places_word-4.result c.places_word.ensures
    c.places_word-2.ensures c.places_word-3.ensures c.places_word-4.ensures
