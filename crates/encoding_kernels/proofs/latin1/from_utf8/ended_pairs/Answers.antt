use Rattle.encoding_kernels.proofs.Latin1FromUtf8Lemmas.{pairs_end}
use Rattle.encoding_kernels.proofs.latin1.from_utf8.ended_pairs.Goals as goal

pub returns-clause-pairs : goal.returns-clause-pairs
returns-clause-pairs c p before = pairs_end c.args.block c.args.before p c.fits-block.0 c.fits-block.1 (record { long = c.fits-before.0; each = before })
