use Rattle.std.proofs.Common.{◌≡◌, ℕ, ◌++◌, ◌<◌, length, length-append, get_or, ap, ◌∙◌, arith, refl}
use Rattle.std.specs.List.{range_with_len}
use Rattle.std.specs.Simd.Lanes.{pick_l, put_chunk}
use Rattle.std.proofs.lemmas.Simd.{pick_l_whole}
use Rattle.encoding_kernels.proofs.CopyLemmas.{lower_same}
use Rattle.encoding_kernels.proofs.VectorLemmas.{put_is}
use Rattle.encoding_kernels.proofs.utf16.bytes.pack_two.Goals as goal

pub returns : goal.returns
returns c =
    let both = c.args.first ++ c.args.second in
    let picked = pick_l 0 both (range_with_len 0 32) in
    let long : length both ≡ 32 = omega (arith, length-append c.args.first c.args.second) in
    let whole : picked ≡ both = pick_l_whole 0 both 32 long in
    let small : (k : ℕ) → k < 32 → get_or picked k 0 < 0x100 = λ k l. omega (arith, ap (λ xs. get_or xs k 0) whole, c.requires.ascii k l) in
    ap (put_chunk c.args.at c.args.dst.now) (lower_same 32 picked refl 32 (omega arith) small ∙ whole)
    ∙ put_is c.args.at 32 c.args.dst.now both long c.requires.within
