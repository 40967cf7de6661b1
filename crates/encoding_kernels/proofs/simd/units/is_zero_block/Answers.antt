use Rattle.std.proofs.lemmas.Bool.{eqb-true, eq-eqb}
use Rattle.encoding_kernels.proofs.MaskLemmas.{zero_words, block_words_zero}
use Rattle.encoding_kernels.proofs.simd.units.is_zero_block.Goals as goal

pub returns : goal.returns
returns c =
    let fits = c.fits-lanes in
    (λ t. zero_words 8 c.args.lanes fits.1 (eqb-true _ 0 t), λ zeros. eq-eqb _ 0 (block_words_zero c.args.lanes fits.0 zeros))
