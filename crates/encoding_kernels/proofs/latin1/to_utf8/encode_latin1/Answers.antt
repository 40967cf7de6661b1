use Rattle.encoding_kernels.proofs.Latin1ToUtf8Lemmas.{others_small, first_spelled, last_spelled}
use Rattle.encoding_kernels.proofs.latin1.to_utf8.encode_latin1.Goals as goal

pub keep_pairs-more-requires : goal.keep_pairs-more-requires
keep_pairs-more-requires c = others_small c.args.block c.fits-block.0 c.mask_of_others-others.result c.mask_of_others-others.ensures

pub returns-clause-first_half : goal.returns-clause-first_half
returns-clause-first_half c = first_spelled c.args.block c.fits-block.0 c.mask_of_others-others.result c.mask_of_others-others.ensures c.both_bytes.result.0 _ _
    c.both_bytes.ensures.first_half c.keep_pairs-count.ensures.kept

pub returns-clause-second_half : goal.returns-clause-second_half
returns-clause-second_half c = last_spelled c.args.block c.fits-block.0 c.mask_of_others-others.result c.mask_of_others-others.ensures c.both_bytes.result.1 _ _
    c.both_bytes.ensures.last c.keep_pairs-more.ensures.kept
