use Rattle.std.proofs.Common.{◌≡◌, ◌+◌, false, w8, leb, eqb, ap, arith, slice_index}
use Rattle.std.proofs.lemmas.Simd.{get_or-chunk}
use Rattle.encoding_kernels.specs.RightToLeft.{rtl_mark_lead, may_start_rtl}
use Rattle.encoding_kernels.proofs.VectorLemmas.{HasLanes_load, HasLanes-splat, HasLanes_same}
use Rattle.encoding_kernels.proofs.MaskLemmas.{tests_of, tests_or, tests_xor, none_marked, marks_of}
use Rattle.encoding_kernels.proofs.bidi.bytes.LowBytesAllPass.pass.Goals as goal

pub returns : goal.returns
returns g c =
    let bs = c.args.self.now.bytes.now in
    let at = c.args.at in
    let n = g.row.N in
    let first = HasLanes_load at n bs (omega arith) in
    let marks =
    HasLanes_same {g = λ k. rtl_mark_lead (slice_index bs (at + 2 + k))} c.mark_leads.ensures
    (λ k l. ap rtl_mark_lead (get_or-chunk (at + 2) n bs k 0 l)) in
    let others = tests_xor (tests_of w8 leb (HasLanes-splat n 0xD6) first) (tests_of w8 eqb first (HasLanes-splat n 0xE2)) in
    none_marked
    (marks_of (λ k. may_start_rtl (slice_index bs k) (rtl_mark_lead (slice_index bs (k + 2))) ≡ false) at
    (tests_or others (tests_of w8 eqb first marks)) c.requires.1.1
    (λ k l. let third : at + 2 + k ≡ at + k + 2 = omega arith in rw third (λ x. x, λ x. x)))
