use Rattle.std.proofs.Common.{◌≡◌, length, length-append, ◌+◌, ◌*◌, ◌/◌, ◌++◌, take, drop, length-take-le, length-drop, arith, ap}
use Rattle.encoding_kernels.proofs.MixedLemmas.{four_masks, four_parts, lower_four, upper_four, unit_of_first, unit_of_second, unit_of_third, unit_of_fourth}
use Rattle.encoding_kernels.proofs.OverwriteLemmas.{spills_both}
use Rattle.encoding_kernels.proofs.utf16_to_utf8.mixed.store_mixed.Goals as goal

pub returns-clause-stored : goal.returns-clause-stored
returns-clause-stored c =
    let us = c.args.units in
    let long = c.fits-units.0 in
    let masks = four_masks us c.mask_of_classes-mask.result long c.mask_of_classes-mask.ensures.mask in
    let lanes = c.four_bytes.result.0 in
    let others = c.four_bytes.result.1 in
    let spells = c.four_bytes.ensures in
    let low : length (take 8 us) ≡ 8 = length-take-le 8 us (omega (arith, long)) in
    let high : length (drop 8 us) ≡ 8 = omega (arith, long, length-drop 8 us) in
    let one = c.encode_twice_four-four.ensures in
    let two = c.encode_twice_four-more.ensures in
    let r = c.encode_twice_four-four.result in
    let s = c.encode_twice_four-more.result in
    let a = one.lower (take 4 (take 8 us)) (length-take-le 4 (take 8 us) (omega (arith, low))) masks.0
    (lower_four us lanes (take 4 (take 8 us)) (λ k. k / 4 * 4 + k) spells.first_half (unit_of_first us)) in
    let b = two.lower (drop 4 (take 8 us)) (omega (arith, low, length-drop 4 (take 8 us))) masks.1
    (lower_four us others (drop 4 (take 8 us)) (λ k. k / 4 * 4 + k + 4) spells.second (unit_of_second us)) in
    let d = one.upper (take 4 (drop 8 us)) (length-take-le 4 (drop 8 us) (omega (arith, high))) masks.2
    (upper_four us lanes (take 4 (drop 8 us)) (λ k. k / 4 * 4 + k) spells.first_half (unit_of_third us)) in
    let e = two.upper (drop 4 (drop 8 us)) (omega (arith, high, length-drop 4 (drop 8 us))) masks.3
    (upper_four us others (drop 4 (drop 8 us)) (λ k. k / 4 * 4 + k + 4) spells.second (unit_of_fourth us)) in
    let first = take r.1 r.0 ++ take s.1 s.0 in
    let second = take r.3 r.2 ++ take s.3 s.2 in
    let whole = four_parts us _ _ _ _ a b d e in
    let all : r.1 + s.1 + (r.3 + s.3) ≡ c.length_of_sixteen.result =
    omega (arith, c.store_two.ensures.counted, c.store_two-2.ensures.counted, length-append first second, ap length whole, c.length_of_sixteen.ensures.count) in
    spills_both c.args.dst.now c.store_two.new.dst c.store_two-2.new.dst c.args.at (r.1 + s.1) (c.args.at + (r.1 + s.1)) (r.3 + s.3)
    c.length_of_sixteen.result first second _ c.store_two.ensures c.store_two-2.ensures (omega arith) all whole
