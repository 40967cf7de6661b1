-- The code unit that ends with each byte of a vector, and a mark if one does: the vectors of code units, those of their
-- lower and upper bytes, and a lookup within each half of a vector of 32 bytes.
use Rattle.std.proofs.Common.{◌≡◌, ℕ, zero, suc, ◌+◌, ◌-◌, ◌*◌, ◌%◌, ◌^◌, ◌<◌, ◌≤◌, Bool, true, false, ◌&&◌, cond, ltb, List, [], ◌∷◌}
use Rattle.std.proofs.Common.{◌++◌, map, length, take, get_or, replicate, bit_and, refl, sym, ap, ◌∙◌, arith, subst, w8, Fits, ◌/◌}
use Rattle.std.proofs.Common.{leb, drop, bit_or, length-take-le, length-drop, get_or-take, get_or-drop, length-append, inl, inr}
use Rattle.std.specs.List.{range_with_len}
use Rattle.std.specs.Simd.Lanes.{zip2, chunk, pick_l, mask_l, top, Each1}
use Rattle.std.proofs.lemmas.Nat.{and_mask}
use Rattle.std.proofs.lemmas.List.{length-append, length-map, get_or-map, same_lists, get_or_append_left, get_or-append_right}
use Rattle.std.proofs.lemmas.List.FromFn.{get_or-map-range_with_len, length-range_with_len, get_or-range_with_len}
use Rattle.std.proofs.lemmas.Simd.{Each1-get_or, mask_l-mod, pick_l_whole, swz_l, SwzOk, length-swz_l, get_or-swz_l_below, SwzOk-from_below, Each1-from_get_or}
use Rattle.encoding_kernels.specs.Scans.{BelowUpTo, HasLanes}
use Rattle.encoding_kernels.specs.EndingUnits.{ends_unit, low_bits, unit_at, units_after, ends_after, unit_lane, upper_of}
use Rattle.encoding_kernels.proofs.VectorLemmas.{HasLanes-itself, HasLanes-splat, HasLanes-zip2, HasLanes_load}
use Rattle.encoding_kernels.proofs.VectorLemmas.{HasLanes_same, compared, same_below, wide, wide_l}
use Rattle.std.specs.Int.Bits.{or_zero_r}
use Rattle.std.proofs.lemmas.Bool.{cond-false, lt-leb, cases_lt}
use Rattle.std.proofs.lemmas.Bool.Decides.{nat_tests}
use Rattle.std.proofs.lemmas.Grind.{same_number_lists}

-- ---- the bytes before
abbrev lanes_from : List ℕ → ℕ → List ℕ
lanes_from v n = pick_l 0 v (range_with_len 0 n)

-- the lanes after zeros, as a shuffle yields them
after_lanes : (zs v : List ℕ) (n k : ℕ) → k < length zs + n → get_or (zs ++ lanes_from v n) k 0 ≡ get_or (zs ++ v) k 0
after_lanes [] v n k l = get_or-map-range_with_len (λ j. get_or v j 0) 0 n k k 0 (omega arith) (omega arith)
after_lanes (z ∷ zs) v n zero l = refl
after_lanes (z ∷ zs) v n (suc k) l = after_lanes zs v n k (omega arith)

pub HasLanes-after : (zs v : List ℕ) (n : ℕ) → HasLanes (length zs + n) (zs ++ lanes_from v n) (λ k. get_or (zs ++ v) k 0)
HasLanes-after zs v n =
    let last : length (lanes_from v n) ≡ n = length-map (range_with_len 0 n) (λ j. get_or v j 0) ∙ length-range_with_len 0 n in
    record { long = omega (arith, length-append zs (lanes_from v n), last); each = after_lanes zs v n }

-- in a text that begins with the vector
pub zeros_before : (n : ℕ) (src v zs : List ℕ) (at : ℕ) → at ≡ 0 → n ≤ length src → HasLanes n v (λ k. get_or (zs ++ take n src) k 0)
    → HasLanes n v (λ k. get_or (zs ++ src) (at + k) 0)
zeros_before n src v zs at first room h = HasLanes_same h (λ k l. prefix zs k (omega arith) ∙ ap (λ j. get_or (zs ++ src) j 0) (omega arith))
  where
    prefix : (zs : List ℕ) (k : ℕ) → k < length zs + n → get_or (zs ++ take n src) k 0 ≡ get_or (zs ++ src) k 0
    prefix [] k l = get_or-take n src k 0 (omega arith)
    prefix (z ∷ zs) zero l = refl
    prefix (z ∷ zs) (suc k) l = prefix zs k (omega arith)

-- at an index of it
pub loaded_before : (n : ℕ) (src zs : List ℕ) (at : ℕ) → length zs ≤ at → at + n ≤ length src
    → HasLanes n (chunk (at - length zs) n src) (λ k. get_or (zs ++ src) (at + k) 0)
loaded_before n src zs at some room = HasLanes_same (HasLanes_load (at - length zs) n src (omega arith)) (λ k l.
    let e : at - length zs + k ≡ at + k - length zs = omega arith in
    ap (λ j. get_or src j 0) e ∙ sym (get_or-append_right zs src (length zs) (at + k) 0 refl (omega arith)))

-- the same for a prefix of any length
below_after : (b n : ℕ) (v : List ℕ) → 0 < b → BelowUpTo b v n → BelowUpTo b (0 ∷ v) (n + 1)
below_after b n v some low zero l = some
below_after b n v some low (suc k) l = low k (omega arith)

-- the bytes three and two before an index
pub shifted_below : (b n : ℕ) (v : List ℕ) → 0 < b → BelowUpTo b v n → (k : ℕ) → k < n
    → (get_or (0 ∷ 0 ∷ 0 ∷ v) k 0 < b) × (get_or (0 ∷ 0 ∷ v) k 0 < b)
shifted_below b n v some low k l =
    let two = below_after b (n + 1) (0 ∷ v) some (below_after b n v some low) in
    (below_after b (n + 1 + 1) (0 ∷ 0 ∷ v) some two k (omega arith), two k (omega arith))

pub bytes_below : (v : List ℕ) → length v ≡ 16 → Each1 (Fits w8) v → (k : ℕ) → k < 16 → get_or v k 0 < 256
bytes_below v long fit k l = (Each1-get_or (Fits w8) v k 0 (omega (arith, long)) fit).fits

-- ---- one lane
pub low_lane : (a b : ℕ) → (bit_and a 63 * 64 % 2 ^ 16 + bit_and b 63) % 2 ^ 16 ≡ low_bits a b
low_lane a b =
    let p : bit_and a 63 ≡ a % 64 = and_mask a 6 in
    let q : bit_and b 63 ≡ b % 64 = and_mask b 6 in
    (λ i. (p i * 64 % 2 ^ 16 + q i) % 2 ^ 16) ∙ omega arith

-- ---- all lanes
pub units_at : (x y a : ℕ) (bs : List ℕ) (k : ℕ) → k < length bs
    → get_or (units_after x y a bs) k 0 ≡ unit_at (get_or (x ∷ y ∷ a ∷ bs) k 0) (get_or (y ∷ a ∷ bs) k 0) (get_or (a ∷ bs) k 0) (get_or bs k 0)
unfolding units_after
units_at x y a [] k l = absurd (omega arith)
units_at x y a (b ∷ bs) zero l = refl
units_at x y a (b ∷ bs) (suc k) l = units_at y a b bs k (omega arith)

pub length-units : (x y a : ℕ) (bs : List ℕ) → length (units_after x y a bs) ≡ length bs
unfolding units_after
length-units x y a [] = refl
length-units x y a (b ∷ bs) = ap suc (length-units y a b bs)

-- ---- marks
both_tops : (p q : Bool) → top 7 (bit_and (cond p 255 0) (cond q 255 0)) ≡ p && q
both_tops true true = refl
both_tops true false = refl
both_tops false true = refl
both_tops false false = refl

pub ends_at : (a : ℕ) (bs : List ℕ) (k : ℕ) (d : Bool) → k < length bs → get_or (ends_after a bs) k d ≡ ends_unit (get_or (a ∷ bs) k 0) (get_or bs k 0)
unfolding ends_after
ends_at a [] k d l = absurd (omega arith)
ends_at a (b ∷ bs) zero d l = refl
ends_at a (b ∷ bs) (suc k) d l = ends_at b bs k d (omega arith)

pub length-ends : (a : ℕ) (bs : List ℕ) → length (ends_after a bs) ≡ length bs
unfolding ends_after
length-ends a [] = refl
length-ends a (b ∷ bs) = ap suc (length-ends b bs)

abbrev pub end_lanes : List ℕ → List ℕ → List ℕ
end_lanes v one = zip2 bit_and (zip2 (compared w8 ltb) v (replicate 16 0xC0)) (zip2 (compared w8 ltb) one (replicate 16 0xE0))

end_marks_of : (v one : List ℕ) (f g : ℕ → ℕ) (marks : List Bool) → HasLanes 16 v f → HasLanes 16 one g → length marks ≡ 16
    → ((k : ℕ) (d : Bool) → k < 16 → get_or marks k d ≡ ends_unit (g k) (f k)) → map (top 7) (end_lanes v one) ≡ marks
end_marks_of v one f g marks V h long is =
    let lanes =
    HasLanes-zip2 bit_and (HasLanes-zip2 (compared w8 ltb) V (HasLanes-splat 16 0xC0)) (HasLanes-zip2 (compared w8 ltb) h (HasLanes-splat 16 0xE0)) in
    let size : length (map (top 7) (end_lanes v one)) ≡ 16 = length-map (end_lanes v one) (top 7) ∙ lanes.long in
    same_lists (map (top 7) (end_lanes v one)) marks (size ∙ sym long) (λ k d l.
    let in_16 : k < 16 = omega (arith, size) in
    get_or-map (top 7) (end_lanes v one) k 0 d (omega (arith, lanes.long)) ∙ ap (top 7) (lanes.each k in_16) ∙ both_tops _ _ ∙ sym (is k d in_16))

-- of a stride at an index
pub stride_mask : (src one : List ℕ) (at : ℕ) → at + 16 ≤ length src → HasLanes 16 one (λ k. get_or (0 ∷ src) (at + k) 0)
    → mask_l (map (top 7) (end_lanes (chunk at 16 src) one)) % 2 ^ 64 ≡ mask_l (take 16 (drop at (ends_after 0 src)))
stride_mask src one at room h =
    let ends = ends_after 0 src in
    let long : length (take 16 (drop at ends)) ≡ 16 = length-take-le 16 (drop at ends) (omega (arith, length-drop at ends, length-ends 0 src)) in
    let marks = end_marks_of (chunk at 16 src) one _ _ (take 16 (drop at ends)) (HasLanes_load at 16 src room) h long (λ k d l.
    get_or-take 16 (drop at ends) k d l ∙ get_or-drop at ends k d ∙ ends_at 0 src (at + k) d (omega arith)) in
    ap (λ ms. mask_l ms % 2 ^ 64) marks ∙ mask_l-mod (take 16 (drop at ends)) 64 (omega (arith, long))

-- ---- every third byte
pub picked_lanes : (n : ℕ) (v ks : List ℕ) → length ks ≡ n → HasLanes n (pick_l 0 v ks) (λ k. get_or v (get_or ks k 0) 0)
picked_lanes n v ks long = record {
  long = length-map ks (λ j. get_or v j 0) ∙ long;
  each =
      λ k l. get_or-map (λ j. get_or v j 0) ks k 0 0 (omega (arith, long));
}

pub triple_lane : (a b d : ℕ) → (a * 0x1000 % 2 ^ 16 + (bit_and b 63 * 64 % 2 ^ 16 + bit_and d 63) % 2 ^ 16) % 2 ^ 16 ≡ a % 16 * 4096 + low_bits b d
triple_lane a b d = let e : a * 4096 % 65536 ≡ a % 16 * 4096 = omega arith in ap (λ n. (a * 0x1000 % 2 ^ 16 + n) % 2 ^ 16) (low_lane b d) ∙ omega arith

-- ---- one lane
lower_bits_lane : (a b : ℕ) → (a * 2 ^ 6 % 2 ^ 8 + bit_and b 0x3F) % 2 ^ 8 ≡ low_bits a b % 0x100
lower_bits_lane a b = let six : bit_and b 0x3F ≡ b % 64 = and_mask b 6 in ap (λ n. (a * 2 ^ 6 % 2 ^ 8 + n) % 2 ^ 8) six ∙ omega arith

pub high_bits_lane : (a b : ℕ) → (a * 2 ^ 2 % 2 ^ 8 + bit_and (b / 2 ^ 4) 3) % 2 ^ 8 ≡ low_bits a b / 0x10
high_bits_lane a b = let two : bit_and (b / 2 ^ 4) 3 ≡ b / 16 % 4 = and_mask (b / 2 ^ 4) 2 in ap (λ n. (a * 2 ^ 2 % 2 ^ 8 + n) % 2 ^ 8) two ∙ omega arith

upper_bits_lane : (y a : ℕ) → ((y - 0xE0) * 2 ^ 4 % 2 ^ 8 + bit_and (a / 2 ^ 2) 0x0F) % 2 ^ 8 ≡ upper_of y a
upper_bits_lane y a =
    let four : bit_and (a / 2 ^ 2) 0x0F ≡ a / 4 % 16 = and_mask (a / 2 ^ 2) 4 in
    grind (arith, nat_tests, four)

-- the bits of a code unit, if it is no surrogate, in vectors
module _ {one : List ℕ} {a : ℕ → ℕ} (before : HasLanes 16 one a) where
  pub lower_bits_lanes : (v : List ℕ) → length v ≡ 16
      → HasLanes 16 (zip2 (λ p q. (p + q) % 2 ^ 8) (zip2 (λ p n. p * 2 ^ n % 2 ^ 8) one (replicate 16 6)) (zip2 bit_and v (replicate 16 0x3F)))
      (λ k. low_bits (a k) (get_or v k 0) % 0x100)
  lower_bits_lanes v long =
      let high = HasLanes-zip2 (λ p n. p * 2 ^ n % 2 ^ 8) before (HasLanes-splat 16 6) in
      let low = HasLanes-zip2 bit_and (HasLanes-itself 16 v long) (HasLanes-splat 16 0x3F) in
      HasLanes_same (HasLanes-zip2 (λ p q. (p + q) % 2 ^ 8) high low) (λ k l. lower_bits_lane _ _)

  pub upper_bits_lanes : {leads : List ℕ} (y : ℕ → ℕ) → HasLanes 16 leads (λ k. y k - 0xE0)
      → HasLanes 16 (zip2 (λ p q. (p + q) % 2 ^ 8) (zip2 (λ p n. p * 2 ^ n % 2 ^ 8) leads (replicate 16 4))
      (zip2 bit_and (zip2 (λ p n. p / 2 ^ n) one (replicate 16 2)) (replicate 16 0x0F)))
      (λ k. upper_of (y k) (a k))
  upper_bits_lanes y leads =
      let above = HasLanes-zip2 (λ p n. p * 2 ^ n % 2 ^ 8) leads (HasLanes-splat 16 4) in
      let below = HasLanes-zip2 bit_and (HasLanes-zip2 (λ p n. p / 2 ^ n) before (HasLanes-splat 16 2)) (HasLanes-splat 16 0x0F) in
      HasLanes_same (HasLanes-zip2 (λ p q. (p + q) % 2 ^ 8) above below) (λ k l. upper_bits_lane _ _)

pub lower_lane : (x y a b : ℕ) → b < 256
    → cond (ltb b 0x80) b (cond (leb 0xF0 y) ((low_bits a b / 0x10 + 0xC0) % 2 ^ 8) (low_bits a b % 0x100)) ≡ unit_at x y a b % 0x100
lower_lane x y a b small = grind (arith, nat_tests)

-- the upper byte of a high surrogate
high_is : (y h : ℕ) → h < 256 → (cond (leb 0x40 h) 0xD8 0xD7 + y % 8) % 2 ^ 8 ≡ (0xD7C0 + (y % 8 * 256 + h)) / 0x100
high_is y h small = grind (arith, nat_tests)

high_small : (a b : ℕ) → low_bits a b / 0x10 < 256
high_small a b = omega arith

pub upper_lane : (x y a b : ℕ) → b < 256
    → cond (ltb b 0x80) 0 (cond (leb 0xF0 y) ((cond (leb 0x40 (low_bits a b / 0x10)) 0xD8 0xD7 + bit_and y 7) % 2 ^ 8)
    (bit_or (upper_of y a) (cond (leb 0xF0 x) 0xDC 0)))
    ≡ unit_at x y a b / 0x100
upper_lane x y a b small =
    let three : bit_and y 7 ≡ y % 8 = and_mask y 3 in
    let high = high_is y (low_bits a b / 0x10) (high_small a b) in
    grind (arith, nat_tests, three, high, or_zero_r (upper_of y a))

-- if no character has four bytes
module _ (x y a b : ℕ) (X : x < 0xF0) (Y : y < 0xF0) (small : b < 256) where
  short_is : unit_at x y a b ≡ cond (ltb b 0x80) b (cond (leb 0xE0 y) (y % 16 * 4096 + low_bits a b) (low_bits a b))
  short_is = ap (cond (ltb b 0x80) b) (cond-false (leb 0xF0 y) _ _ (lt-leb _ _ Y) ∙ cond-false (leb 0xF0 x) _ _ (lt-leb _ _ X))

  pub short_lower_lane : cond (ltb b 0x80) b (low_bits a b % 0x100) ≡ unit_at x y a b % 0x100
  short_lower_lane = rw short_is (grind (arith, nat_tests))

  pub short_upper_lane : cond (ltb b 0x80) 0 (upper_of y a) ≡ unit_at x y a b / 0x100
  short_upper_lane = rw short_is (grind (arith, nat_tests))

-- ---- bytes joined
any_small : (xs : List ℕ) (k : ℕ) → Each1 (Fits w8) xs → get_or xs k 0 < 256
any_small [] k f = omega arith
any_small (x ∷ xs) zero f = f.0.fits
any_small (x ∷ xs) (suc k) f = any_small xs k f.1

both_small : (xs ys : List ℕ) (k : ℕ) → Each1 (Fits w8) xs → Each1 (Fits w8) ys → get_or (xs ++ ys) k 0 < 256
both_small [] ys k e f = any_small ys k f
both_small (x ∷ xs) ys zero e f = e.0.fits
both_small (x ∷ xs) ys (suc k) e f = both_small xs ys k e.1 f

module _ (lower upper : List ℕ) (p : length lower ≡ 16) (e : Each1 (Fits w8) lower) (f : Each1 (Fits w8) upper) where
  picked_small : (ks : List ℕ) → Each1 (λ x. x < 256) (pick_l 0 (lower ++ upper) ks)
  picked_small [] = tt
  picked_small (k ∷ ks) = (both_small lower upper k e f, picked_small ks)

  pub joined_lanes : (places : List ℕ) (at : ℕ → ℕ) → length places ≡ 16 → ((j : ℕ) → j < 8 → at j < 16)
      → map (λ j. get_or places (2 * j) 0) (range_with_len 0 8) ≡ map at (range_with_len 0 8)
      → map (λ j. get_or places (2 * j + 1) 0) (range_with_len 0 8) ≡ map (λ j. 16 + at j) (range_with_len 0 8)
      → HasLanes 8 (wide_l (pick_l 0 (lower ++ upper) places)) (λ j. get_or lower (at j) 0 + 0x100 * get_or upper (at j) 0)
  joined_lanes places at long inside evens odds =
      let picked = λ (k : ℕ). get_or (lower ++ upper) k 0 in
      let lanes = wide (pick_l 0 (lower ++ upper) places) (length-map places picked ∙ long) (picked_small places) in
      record {
        long = lanes.long;
        each = λ j l.
            let back : 16 + at j - 16 ≡ at j = omega arith in
            let even : get_or (pick_l 0 (lower ++ upper) places) (2 * j) 0 ≡ get_or lower (at j) 0 =
            get_or-map picked places (2 * j) 0 0 (omega (arith, long)) ∙ ap picked (same_below (λ i. get_or places (2 * i) 0) at 0 8 evens j l)
            ∙ get_or_append_left lower upper 0 (at j) (omega (arith, inside j l, p)) in
            let odd : get_or (pick_l 0 (lower ++ upper) places) (2 * j + 1) 0 ≡ get_or upper (at j) 0 =
            get_or-map picked places (2 * j + 1) 0 0 (omega (arith, long))
            ∙ ap picked (same_below (λ i. get_or places (2 * i + 1) 0) (λ i. 16 + at i) 0 8 odds j l)
            ∙ get_or-append_right lower upper 16 (16 + at j) 0 p (omega arith) ∙ ap (λ k. get_or upper k 0) back in
            lanes.each j l ∙ (λ i. even i + 0x100 * odd i);
      }

-- ---- both halves
-- a byte and its index in a pair make the unit
pub parts : (u : ℕ) → u % 0x100 + 0x100 * (u / 0x100) ≡ u
parts u = omega arith

pub both_halves : (v first last : List ℕ) → length v ≡ 16 → HasLanes 8 first (λ k. unit_lane v k) → HasLanes 8 last (λ k. unit_lane v (8 + k))
    → (first ≡ take 8 (units_after 0 0 0 v)) × (last ≡ drop 8 (units_after 0 0 0 v))
both_halves v first last long h g = (
  same_number_lists first (take 8 us) (omega (arith, h.long, length-take-le 8 us (omega (arith, size)))) (λ k l.
      let in_8 : k < 8 = omega (arith, h.long) in
      h.each k in_8 ∙ sym (units_at 0 0 0 v k (omega (arith, long))) ∙ sym (get_or-take 8 us k 0 in_8)),
  same_number_lists last (drop 8 us) (omega (arith, g.long, length-drop 8 us, size)) (λ k l.
      let in_8 : k < 8 = omega (arith, g.long) in
      g.each k in_8 ∙ sym (units_at 0 0 0 v (8 + k) (omega (arith, long))) ∙ sym (get_or-drop 8 us k 0)),
)
  where
    us : List ℕ
    us = units_after 0 0 0 v

    size : length us ≡ 16
    size = length-units 0 0 0 v ∙ long

-- a stride of the units of a text
module _ (src : List ℕ) where
  abbrev before : ℕ → ℕ → ℕ
  before n b = unit_at (get_or (0 ∷ 0 ∷ 0 ∷ src) n 0) (get_or (0 ∷ 0 ∷ src) n 0) (get_or (0 ∷ src) n 0) b

  stride_units : (part : List ℕ) (at : ℕ) → at + 8 ≤ length src → HasLanes 8 part (λ k. unit_lane src (at + k))
      → part ≡ take 8 (drop at (units_after 0 0 0 src))
  stride_units part at room h =
      let us = units_after 0 0 0 src in
      let long : length (take 8 (drop at us)) ≡ 8 = length-take-le 8 (drop at us) (omega (arith, length-drop at us, length-units 0 0 0 src)) in
      same_number_lists part (take 8 (drop at us)) (omega (arith, h.long, long)) (λ k l.
      let in_8 : k < 8 = omega (arith, h.long) in
      h.each k in_8 ∙ sym (get_or-take 8 (drop at us) k 0 in_8 ∙ get_or-drop at us k 0 ∙ units_at 0 0 0 src (at + k) (omega arith)))

  pub stride_halves : (first last : List ℕ) (at : ℕ) → at + 16 ≤ length src
      → HasLanes 8 first (λ k. before (at + k) (get_or (chunk at 16 src) k 0))
      × HasLanes 8 last (λ k. before (at + (8 + k)) (get_or (chunk at 16 src) (8 + k) 0))
      → (first ≡ take 8 (drop at (units_after 0 0 0 src))) × (last ≡ take 8 (drop (at + 8) (units_after 0 0 0 src)))
  stride_halves first last at room units =
      let block = HasLanes_load at 16 src room in (
        stride_units first at (omega arith) (HasLanes_same units.0 (λ k l. ap (before (at + k)) (block.each k (omega arith)))),
        stride_units last (at + 8) (omega arith) (HasLanes_same units.1 (λ k l.
            let place : at + (8 + k) ≡ at + 8 + k = omega arith in
            ap (before (at + (8 + k))) (block.each (8 + k) (omega arith)) ∙ ap (unit_lane src) place)),
      )

module _ (bytes first second : List ℕ) (p : length first ≡ 16) (q : length second ≡ 16) (small : (k : ℕ) → k < 16
    → (get_or first k 0 < 16) × (get_or second k 0 < 16)) where
  abbrev places : List ℕ
  places = pick_l 0 (first ++ second) (range_with_len 0 32)

  abbrev selected : List ℕ
  selected = swz_l w8 16 bytes 0 places

  both_long : length (first ++ second) ≡ 32
  both_long = omega (arith, length-append first second, p, q)

  whole : places ≡ first ++ second
  whole = pick_l_whole 0 (first ++ second) 32 both_long

  places_long : length places ≡ 32
  places_long = ap length whole ∙ both_long

  in_first : (k : ℕ) → k < 16 → get_or places k 0 ≡ get_or first k 0
  in_first k l = ap (λ xs. get_or xs k 0) whole ∙ get_or_append_left first second 0 k (omega arith)

  in_second : (k : ℕ) → k < 16 → get_or places (16 + k) 0 ≡ get_or second k 0
  in_second k l =
      let back : 16 + k - 16 ≡ k = omega arith in
      ap (λ xs. get_or xs (16 + k) 0) whole ∙ get_or-append_right first second 16 (16 + k) 0 p (omega arith) ∙ ap (λ j. get_or second j 0) back

  below : (k : ℕ) → k < 32 → get_or places k 0 < 16
  below k l = elim (cases_lt k 16) [
    | inl m ↦ omega (arith, in_first k m, (small k m).0)
    | inr m ↦
        let e : 16 + (k - 16) ≡ k = omega arith in
        subst (λ j. get_or places j 0 < 16) e (omega (arith, in_second (k - 16) (omega arith), (small (k - 16) (omega arith)).1))
  ]

  pub halves_ok : SwzOk w8 16 32 0 places
  halves_ok = SwzOk-from_below w8 16 2 32 0 places refl (omega (arith, places_long))
      (Each1-from_get_or (λ j. j < 16) places 0 (λ k l. below k (omega (arith, places_long))))

  selected_at : (k : ℕ) → k < 32 → get_or selected k 0 ≡ get_or bytes (16 * (k / 16) + get_or places k 0) 0
  selected_at k l =
      let e : 0 + k ≡ k = omega arith in
      get_or-swz_l_below w8 16 bytes 0 places k (omega (arith, places_long)) (below k l) ∙ ap (λ j. get_or bytes (16 * (j / 16) + get_or places k 0) 0) e

  half_at : (h k : ℕ) → h + 16 ≤ 32 → k < 16 → get_or (pick_l 0 (selected ++ selected) (range_with_len h 16)) k 0 ≡ get_or selected (h + k) 0
  half_at h k room l =
      (picked_lanes 16 (selected ++ selected) (range_with_len h 16) (length-range_with_len h 16)).each k l
      ∙ ap (λ j. get_or (selected ++ selected) j 0) (get_or-range_with_len h 16 k 0 l)
      ∙ get_or_append_left selected selected 0 (h + k) (omega (arith, length-swz_l w8 16 bytes 0 places, places_long))

  half_is : (h : ℕ) (source : List ℕ) (get : ℕ → ℕ) → h + 16 ≤ 32 → length source ≡ 16
      → ((k : ℕ) → k < 16 → get_or selected (h + k) 0 ≡ get (get_or source k 0))
      → pick_l 0 (selected ++ selected) (range_with_len h 16) ≡ map get source
  half_is h source get room long is =
      let size = (picked_lanes 16 (selected ++ selected) (range_with_len h 16) (length-range_with_len h 16)).long in
      same_number_lists (pick_l 0 (selected ++ selected) (range_with_len h 16)) (map get source) (omega (arith, size, length-map source get, long)) (λ k l.
      let within : k < 16 = omega (arith, size) in
      half_at h k room within ∙ is k within ∙ sym (get_or-map get source k 0 0 (omega (arith, long))))

  pub lower_half : pick_l 0 (selected ++ selected) (range_with_len 0 16) ≡ map (λ j. get_or bytes j 0) first
  lower_half = half_is 0 first (λ j. get_or bytes j 0) (omega arith) p (λ k l.
      let e : 0 + k ≡ k = omega arith in
      let place : 16 * (k / 16) + get_or places k 0 ≡ get_or first k 0 = omega (arith, in_first k l) in
      ap (λ j. get_or selected j 0) e ∙ selected_at k (omega arith) ∙ ap (λ j. get_or bytes j 0) place)

  pub upper_half : pick_l 0 (selected ++ selected) (range_with_len 16 16) ≡ map (λ j. get_or bytes (16 + j) 0) second
  upper_half = half_is 16 second (λ j. get_or bytes (16 + j) 0) (omega arith) q (λ k l.
      let place : 16 * ((16 + k) / 16) + get_or places (16 + k) 0 ≡ 16 + get_or second k 0 = omega (arith, in_second k l) in
      selected_at (16 + k) (omega arith) ∙ ap (λ j. get_or bytes j 0) place)
