use Rattle.std.proofs.Common.{◌+◌, ◌-◌, arith}
use Rattle.encoding_kernels.proofs.PairsLemmas.{pairs_fit, latin1_joined}
use Rattle.encoding_kernels.proofs.latin1.validate.latin1_blocks.Goals as goal

pub before_cut_character-requires : goal.before_cut_character-requires
before_cut_character-requires c =
    let bs = c.args.bytes.now in
    let from = c.args.from in
    let blocks = c.skip-by_blocks.ensures in
    let last = c.skip_to_end-last.ensures in
    let middle = c.skip-by_blocks.result + 1 in
    let end = c.skip_to_end-last.result + 1 in
    let first = pairs_fit bs (from - 1) c.skip-by_blocks.result from middle (omega (arith, c.requires.0)) (omega arith)
    (λ k. (c.type_inv.bytes k).fits) blocks.pass in
    let second = pairs_fit bs c.skip-by_blocks.result c.skip_to_end-last.result middle end (omega arith) (omega arith)
    (λ k. (c.type_inv.bytes k).fits) last.pass in (
      omega arith,
      omega (arith, last.within, c.requires),
      latin1_joined bs 0 middle middle end
          (latin1_joined bs 0 from from middle c.requires.2 first (omega arith)) second (omega arith),
    )
