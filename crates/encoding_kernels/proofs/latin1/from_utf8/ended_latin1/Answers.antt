use Rattle.std.proofs.Common.{◌∙◌, arith}
use Rattle.encoding_kernels.specs.KeptBytes.{both_end}
use Rattle.encoding_kernels.proofs.Latin1FromUtf8Lemmas.{both_end_long, kept_ends}
use Rattle.encoding_kernels.proofs.latin1.from_utf8.ended_latin1.Goals as goal

pub returns-clause-latin1_ended : goal.returns-clause-latin1_ended
returns-clause-latin1_ended c p before =
    c.keep_pairs.ensures.kept (both_end c.args.block) (both_end_long 8 c.args.block (omega (arith, c.fits-block.0))) c.mask_of_ends.ensures.mask
    ∙ kept_ends c.args.block c.args.before p c.fits-block.0 c.fits-block.1 (record { long = c.fits-before.0; each = before }) c.ended_pairs.result
    (c.ended_pairs.ensures.pairs p before) c.requires
