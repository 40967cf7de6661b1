use Rattle.std.proofs.Common.{◌%◌, ap, ◌∙◌, map, arith}
use Rattle.std.proofs.lemmas.List.{length-map}
use Rattle.std.proofs.lemmas.Simd.{length-chunk}
use Rattle.std.specs.Simd.Lanes.{chunk, put_chunk}
use Rattle.encoding_kernels.proofs.CopyLemmas.{lower_are, lower_fit}
use Rattle.encoding_kernels.proofs.VectorLemmas.{put_is, whole_chunk}
use Rattle.encoding_kernels.proofs.simd.copy.pack_lower.Goals as goal

pub overflow_cast-dst : goal.overflow_cast-dst
overflow_cast-dst g c = lower_fit g.row.N (chunk 0 g.row.N c.args.stride.now) (length-chunk 0 g.row.N c.args.stride.now (omega (arith, c.told-stride)))

pub returns : goal.returns
returns g c =
    let n = g.row.N in
    let stride = c.args.stride.now in
    ap (put_chunk c.args.at c.args.dst.now) (lower_are n (chunk 0 n stride) (length-chunk 0 n stride (omega (arith, c.told-stride)))
    ∙ ap (map (λ unit. unit % 0x100)) (whole_chunk n stride c.told-stride))
    ∙ put_is c.args.at n c.args.dst.now (map (λ unit. unit % 0x100) stride) (length-map stride (λ unit. unit % 0x100) ∙ c.told-stride) c.requires
