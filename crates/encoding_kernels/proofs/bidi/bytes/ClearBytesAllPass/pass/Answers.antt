use Rattle.std.proofs.Common.{◌≡◌, ◌+◌, w8, ltb, refl, arith, slice_index}
use Rattle.std.proofs.lemmas.Bool.{ltb-false, le-ltb}
use Rattle.std.proofs.lemmas.Simd.{get_or-chunk}
use Rattle.encoding_kernels.specs.RightToLeft.{HasNoRtlAt, rtl_mark_lead, rtl_second_end}
use Rattle.encoding_kernels.proofs.VectorLemmas.{HasLanes_load, HasLanes_same}
use Rattle.encoding_kernels.proofs.MaskLemmas.{tests_of, none_marked, marks_of}
use Rattle.encoding_kernels.proofs.bidi.bytes.ClearBytesAllPass.pass.Goals as goal

pub returns : goal.returns
returns g c =
    let bs = c.args.self.now.bytes.now in
    let at = c.args.at in
    let n = g.row.N in
    let ends = HasLanes_same {g = λ k. rtl_second_end (slice_index bs (at + k)) (rtl_mark_lead (slice_index bs (at + 2 + k)))} c.second_ends.ensures
    (λ k l. rw (get_or-chunk at n bs k 0 l, get_or-chunk (at + 2) n bs k 0 l) refl) in
    none_marked
    (marks_of (HasNoRtlAt bs) at (tests_of w8 ltb (HasLanes_load (at + 1) n bs (omega arith)) ends) c.requires.1.1
    (λ k l. let second : at + 1 + k ≡ at + k + 1 = omega arith in let third : at + 2 + k ≡ at + k + 2 = omega arith in
    rw (second, third) (ltb-false _ _, le-ltb _ _)))
