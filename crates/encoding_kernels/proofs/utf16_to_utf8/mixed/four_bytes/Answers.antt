use Rattle.std.proofs.Common.{◌+◌, ◌*◌, ◌/◌, ◌∷◌, [], arith, refl}
use Rattle.encoding_kernels.proofs.MixedLemmas.{four_spelled}
use Rattle.encoding_kernels.proofs.utf16_to_utf8.mixed.four_bytes.Goals as goal

pub returns-clause-first_half : goal.returns-clause-first_half
returns-clause-first_half c =
    let two = c.two_words.ensures in
    four_spelled c.args.units c.two_words.result.0 c.two_words.result.1 (0 ∷ 16 ∷ 1 ∷ 17 ∷ 2 ∷ 18 ∷ 3 ∷ 19 ∷ 8 ∷ 24 ∷ 9 ∷ 25 ∷ 10 ∷ 26 ∷ 11 ∷ 27 ∷ [])
    (λ k. k / 4 * 4 + k) (λ k l. omega arith) two.lane_count.0 two.lane_count.1 two.upper_bound refl refl refl two.spelled

pub returns-clause-second : goal.returns-clause-second
returns-clause-second c =
    let two = c.two_words.ensures in
    four_spelled c.args.units c.two_words.result.0 c.two_words.result.1 (4 ∷ 20 ∷ 5 ∷ 21 ∷ 6 ∷ 22 ∷ 7 ∷ 23 ∷ 12 ∷ 28 ∷ 13 ∷ 29 ∷ 14 ∷ 30 ∷ 15 ∷ 31 ∷ [])
    (λ k. k / 4 * 4 + k + 4) (λ k l. omega arith) two.lane_count.0 two.lane_count.1 two.upper_bound refl refl refl two.spelled
