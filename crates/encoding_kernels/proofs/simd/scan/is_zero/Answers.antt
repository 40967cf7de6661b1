use Rattle.std.proofs.lemmas.Bool.{eqb-true, eq-eqb}
use Rattle.encoding_kernels.proofs.MaskLemmas.{zero_words, words_zero}
use Rattle.encoding_kernels.proofs.simd.scan.is_zero.Goals as goal

pub returns : goal.returns
returns c =
    let fits = c.fits-lanes in
    (λ t. zero_words 4 c.args.lanes fits.1 (eqb-true _ 0 t), λ zeros. eq-eqb _ 0 (words_zero c.args.lanes fits.0 zeros))
