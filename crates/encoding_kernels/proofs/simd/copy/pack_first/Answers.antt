use Rattle.std.proofs.Common.{◌+◌, ◌++◌, drop, take, ap, ◌∙◌, arith}
use Rattle.std.proofs.lemmas.Simd.{length-chunk, get_or-chunk}
use Rattle.std.specs.Simd.Lanes.{chunk}
use Rattle.encoding_kernels.proofs.CopyLemmas.{lower_fit, lower_same}
use Rattle.encoding_kernels.proofs.VectorLemmas.{whole_chunk}
use Rattle.encoding_kernels.proofs.simd.copy.pack_first.Goals as goal

pub overflow_cast-lower : goal.overflow_cast-lower
overflow_cast-lower c = lower_fit 16 (chunk 0 16 c.args.stride.now) (length-chunk 0 16 c.args.stride.now (omega (arith, c.told-stride)))

pub returns : goal.returns
returns c =
    let old = c.args.dst.now in
    let stride = c.args.stride.now in
    let count = c.args.count in
    let few = c.requires.within.1 in
    let long = length-chunk 0 16 stride (omega (arith, c.told-stride)) in
    let same =
    lower_same 16 (chunk 0 16 stride) long count few
    (λ k l. rw (get_or-chunk 0 16 stride k 0 (omega (arith, few))) (omega (arith, c.requires.ascii (0 + k) (omega arith) (omega arith)))) in
    c.write_first.ensures ∙ ap (λ ys. take c.args.at old ++ (ys ++ drop (c.args.at + count) old)) (same ∙ ap (take count) (whole_chunk 16 stride c.told-stride))
