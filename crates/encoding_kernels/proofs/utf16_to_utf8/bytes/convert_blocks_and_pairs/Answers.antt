use Rattle.encoding_kernels.proofs.ScalarsLemmas.{scalars_more, scalars_of_bmp}
use Rattle.encoding_kernels.proofs.utf16_to_utf8.bytes.convert_blocks_and_pairs.Goals as goal

pub returns-then-read-count-clause-converted : goal.returns-then-read-count-clause-converted
returns-then-read-count-clause-converted g c = scalars_of_bmp c.count.ensures.code_units c.convert_ascii_and_blocks-read.ensures

pub returns-clause-converted : goal.returns-clause-converted
returns-clause-converted g c =
    scalars_more c.skip.ensures (scalars_of_bmp c.count.ensures.code_units c.convert_ascii_and_blocks-read.ensures) c.convert_paired_blocks-units.ensures
