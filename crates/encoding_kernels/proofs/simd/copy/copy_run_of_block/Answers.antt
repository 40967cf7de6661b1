use Rattle.std.proofs.Common.{◌+◌, ◌++◌, drop, take, ap, ◌∙◌, w8}
use Rattle.std.proofs.lemmas.List.{take-take}
use Rattle.std.proofs.lemmas.Simd.{length-chunk}
use Rattle.std.specs.Simd.Lanes.{chunk}
use Rattle.encoding_kernels.proofs.CopyLemmas.{put_first}
use Rattle.encoding_kernels.proofs.simd.copy.copy_run_of_block.Goals as goal

pub returns : goal.returns
returns c =
    let src = c.args.src.now in
    let old = c.args.dst.now in
    let at = c.args.at in
    let count = c.args.count in
    put_first w8 at count old (chunk at 64 src) c.requires.within.1 (length-chunk at 64 src c.requires.within.0) c.requires.count
    ∙ ap (λ ys. take at old ++ (ys ++ drop (at + count) old)) (take-take count 64 (drop at src) c.requires.count)
