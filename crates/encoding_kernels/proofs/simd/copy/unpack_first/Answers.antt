use Rattle.std.proofs.Common.{◌+◌, ◌++◌, ◌∙◌, ap, drop, length, length-take-le, map, map-id, take, w16}
use Rattle.std.proofs.lemmas.List.{take-take}
use Rattle.encoding_kernels.proofs.CopyLemmas.{put_first}
use Rattle.encoding_kernels.proofs.simd.copy.unpack_first.Goals as goal

pub returns : goal.returns
returns c =
    let src = c.args.src.now in
    let old = c.args.dst.now in
    let count = c.args.count in
    let long = ap length (map-id (take 16 src)) ∙ length-take-le 16 src c.requires.within.0 in
    put_first w16 c.args.at count old (map (λ b. b) (take 16 src)) c.requires.within.1 long c.requires.count
    ∙ ap (λ ys. take c.args.at old ++ (ys ++ drop (c.args.at + count) old)) (ap (take count) (map-id _) ∙ take-take count 16 src c.requires.count)
