use Rattle.std.proofs.Common.{w8, bit_or, leb, ltb, eqb, slice_index, Fits, arith, ℕ}
use Rattle.std.proofs.lemmas.Simd.{Each1-get_or}
use Rattle.encoding_kernels.proofs.BidiLemmas.{ends_are}
use Rattle.encoding_kernels.proofs.VectorLemmas.{HasLanes-itself, HasLanes-splat, HasLanes-zip2, HasLanes_same}
use Rattle.encoding_kernels.proofs.MaskLemmas.{tests_of, tests_and, chosen}
use Rattle.encoding_kernels.proofs.bidi.bytes.second_ends.Goals as goal

pub returns : goal.returns
returns g c =
    let n = g.row.N in
    let first = HasLanes-itself n c.args.first c.fits-first.0 in
    let is = λ (x : ℕ). tests_of w8 eqb first (HasLanes-splat n x) in
    let hebrew = tests_and (tests_of w8 leb (HasLanes-splat n 0xD6) first) (tests_of w8 ltb first (HasLanes-splat n 0xE0)) in
    let two = HasLanes-zip2 bit_or (chosen 0xFF 0 hebrew) (chosen 0xA4 0 (is 0xE0)) in
    let four = HasLanes-zip2 bit_or (HasLanes-zip2 bit_or two (chosen 0xBC 0 (is 0xEF))) (chosen 0x9F 0 (is 0xF0)) in
    HasLanes_same (HasLanes-zip2 bit_or four (chosen 0x82 0 (tests_of w8 eqb first c.mark_leads.ensures)))
    (λ k l. ends_are (slice_index c.args.first k) (slice_index c.args.third k)
    (Each1-get_or (Fits w8) c.args.first k 0 (omega (arith, c.fits-first.0)) c.fits-first.1).fits)
