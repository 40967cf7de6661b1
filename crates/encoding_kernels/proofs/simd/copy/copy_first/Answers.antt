use Rattle.std.proofs.Common.{◌+◌, ◌++◌, drop, take, ap, ◌∙◌}
use Rattle.std.proofs.lemmas.List.{take-take}
use Rattle.encoding_kernels.proofs.simd.copy.copy_first.Goals as goal

pub returns-else-count-eq-STRIDE : goal.returns-else-count-eq-STRIDE
returns-else-count-eq-STRIDE c =
    let old = c.args.dst.now in
    let count = c.args.count in
    c.write_first.ensures
    ∙ ap (λ ys. take c.args.at old ++ (ys ++ drop (c.args.at + count) old)) (take-take count 16 c.args.src.now c.requires.count)
