-- The vector operations of the test, lane by lane: what the three lookups say about two adjacent bytes, and what a lane
-- that is zero says about four.
use Rattle.std.proofs.Common.{◌≡◌, ℕ, ◌+◌, ◌-◌, ◌*◌, ◌/◌, ◌<◌, ◌≤◌, ◌⊎◌, inl, inr, Bool, true, ◌&&◌, ◌||◌, ◌==◌, if◌then◌else◌}
use Rattle.std.proofs.Common.{sym, subst, zero, suc, ◌∷◌, false, map, [], get_or, bit_and, bit_or, bit_xor, refl, arith, nat_le}
use Rattle.std.proofs.Common.{nat_lt, eq-eqb, ◌%◌, ◌^◌, cond, ltb, List, ◌++◌, take, length, replicate, ap, ◌∙◌, w8, Fits}
use Rattle.std.proofs.lemmas.Bool.{and_parts, cases_lt, true≢false}
use Rattle.std.proofs.lemmas.Bool.Decides.{nat_tests}
use Rattle.std.proofs.lemmas.Nat.Bits.{and_pow, bit_at_or}
use Rattle.std.specs.List.{range_with_len}
use Rattle.encoding_kernels.specs.declared.utf8.lookups.TheConstants.{BYTE_1_HIGH, BYTE_1_LOW, BYTE_2_HIGH}
use Rattle.encoding_kernels.specs.Following.{IsValidAfter, IsValidAt}
use Rattle.encoding_definitions.specs.Sequence.{IsContinuation, IsSecond}
use Rattle.encoding_definitions.proofs.SequenceLemmas.{is_second}
use Rattle.encoding_kernels.proofs.VectorLemmas.{same_below, HasLanes-itself, HasLanes_load, HasLanes_same, HasLanes-splat, HasLanes-zip2, compared}
use Rattle.std.proofs.lemmas.List.{length-take-le, get_or-append_right, get_or-take}
use Rattle.std.proofs.lemmas.Nat.{and_le_r}
use Rattle.std.proofs.lemmas.Simd.{get_or-chunk, Each1-get_or, Each1-from_get_or, SwzOk, SwzOk-from_below, swz_l, length-swz_l, get_or-swz_l_below}
use lib.Lanes.{zip2, chunk, sel_l, top, Each1}
use Rattle.encoding_kernels.specs.Scans.{HasLanes}
use Rattle.encoding_kernels.proofs.MaskLemmas.{chosen_by, tests_of}
use Rattle.encoding_kernels.proofs.Utf8ValidationLemmas.{IsValidAt-lanes}

-- ---- two bytes
-- the errors that the tables leave for a byte a and a following byte with the high nibble h
abbrev pub pair : ℕ → ℕ → ℕ
pair a h = bit_and (bit_and (get_or BYTE_1_HIGH (a / 16) 0) (get_or BYTE_1_LOW (bit_and a 15) 0)) (get_or BYTE_2_HIGH h 0)

-- If no sequence was open before a, each byte with the high nibble h may follow a: the least and the greatest of the
-- sixteen may be second after a first byte, or no continuation byte follows another byte.
abbrev clear : ℕ → ℕ → Bool
clear a h = if nat_lt a 0xC0 then (nat_lt h 8 || nat_le 12 h) else ((nat_le 0xC2 a && nat_le a 0xF4) && (is_second a (16 * h) && is_second a (16 * h + 15)))

-- a continuation byte after a byte that is no first byte of several
abbrev continues : ℕ → ℕ → Bool
continues a h = nat_lt a 0xC0 && (nat_le 8 h && nat_lt h 12)

-- what the tables say if there is no error, and if the only bit is that of two continuation bytes
abbrev reported : ℕ → ℕ → Bool
reported a h = (if bit_xor 0 (pair a h) == 0 then clear a h else true) && (if bit_xor 0x80 (pair a h) == 0 then continues a h else true)

-- of all 256 bytes, with all 16 high nibbles of the following byte
is_reported : (a h : ℕ) → a < 256 → h < 16 → reported a h ≡ true
is_reported a h l k = same_below (reported a) (λ _. true) true 16
    (same_below (λ x. map (reported x) (range_with_len 0 16)) (λ _. map (λ _. true) (range_with_len 0 16)) [] 256 refl a l) h k

where_tested : (test inner : Bool) → (if test then inner else true) ≡ true → test ≡ true → inner ≡ true
where_tested true inner e t = e
where_tested false inner e t = absurd (true≢false (sym t))

is_clear : (a h : ℕ) → a < 256 → h < 16 → bit_xor 0 (pair a h) ≡ 0 → clear a h ≡ true
is_clear a h l k e = where_tested _ _ (and_parts _ _ (is_reported a h l k)).0 (eq-eqb _ _ e)

is_continued : (a h : ℕ) → a < 256 → h < 16 → bit_xor 0x80 (pair a h) ≡ 0 → continues a h ≡ true
is_continued a h l k e = where_tested _ _ (and_parts _ _ (is_reported a h l k)).1 (eq-eqb _ _ e)

-- the same for a byte b with that high nibble
second_after : (a b : ℕ) → 0xC0 ≤ a → clear a (b / 16) ≡ true → IsSecond a b
second_after a b l e = grind (arith, nat_tests)

first_after : (a b : ℕ) → a < 0xC0 → clear a (b / 16) ≡ true → (b < 0x80) ⊎ (0xC0 ≤ b)
first_after a b l e = grind (arith, nat_tests)

later_after : (a b : ℕ) → continues a (b / 16) ≡ true → (a < 0xC0) × IsContinuation b
later_after a b e = grind (arith, nat_tests)

-- ---- four bytes
-- the lane of b after x, y and a
abbrev pub lane : ℕ → ℕ → ℕ → ℕ → ℕ
lane x y a b = bit_xor (bit_and (bit_or (y - 0x60) (x - 0x70)) 0x80) (pair a (b / 16))

-- the highest bit of a byte u or v
bit_7_unset : (u v : ℕ) → u < 0x80 → v < 0x80 → bit_and (bit_or u v) 0x80 ≡ 0
bit_7_unset u v k l = omega (arith, and_pow (bit_or u v) 7, bit_at_or u v 7)

bit_7_set : (u v : ℕ) → u < 256 → v < 256 → (0x80 ≤ u) ⊎ (0x80 ≤ v) → bit_and (bit_or u v) 0x80 ≡ 0x80
bit_7_set u v k l s = omega (arith, and_pow (bit_or u v) 7, bit_at_or u v 7)

-- no sequence of three or four bytes continues
after_a_whole : (x y a b : ℕ) → x < 0xF0 → y < 0xE0 → clear a (b / 16) ≡ true → IsValidAfter x y a b
after_a_whole x y a b p q e = record {
  second = λ l. second_after a b l e;
  third = λ l. absurd (omega arith);
  fourth = λ l. absurd (omega arith);
  first = λ _ _ l. first_after a b l e;
}

-- one does
after_a_part : (x y a b : ℕ) → (0xF0 ≤ x) ⊎ (0xE0 ≤ y) → continues a (b / 16) ≡ true → IsValidAfter x y a b
after_a_part x y a b long e =
    let later = later_after a b e in
    record {
      second = λ l. absurd (omega arith);
      third = λ _. later.1;
      fourth = λ _. later.1;
      first = λ p q _. absurd (omega arith);
    }

module _ (x y a b : ℕ) (X : x < 256) (Y : y < 256) (A : a < 256) (B : b < 256) (zero_lane : lane x y a b ≡ 0) where
  half : b / 16 < 16
  half = omega arith

  on_whole : x < 0xF0 → y < 0xE0 → IsValidAfter x y a b
  on_whole p q = after_a_whole x y a b p q (is_clear a (b / 16) A half (rw (bit_7_unset (y - 0x60) (x - 0x70) (omega arith) (omega arith)) at zero_lane))

  on_part : (0xF0 ≤ x) ⊎ (0xE0 ≤ y) → IsValidAfter x y a b
  on_part long = after_a_part x y a b long
      (is_continued a (b / 16) A half (rw (bit_7_set (y - 0x60) (x - 0x70) (omega arith) (omega arith) (either long)) at zero_lane))
    where
      either : (0xF0 ≤ x) ⊎ (0xE0 ≤ y) → (0x80 ≤ y - 0x60) ⊎ (0x80 ≤ x - 0x70)
      either (inl p) = inr (omega arith)
      either (inr q) = inl (omega arith)

  pub lane_follows : IsValidAfter x y a b
  lane_follows = elim (cases_lt x 0xF0) [
    | inr p ↦ on_part (inl p)
    | inl p ↦ elim (cases_lt y 0xE0) [ inl q ↦ on_whole p q | inr q ↦ on_part (inr q) ]
  ]

-- n bytes: sixteen, or two times sixteen
abbrev pub IsLanes : ℕ → List ℕ → Type 0
IsLanes n v = (length v ≡ n) × Each1 (Fits w8) v

abbrev pub IsWidth : ℕ → Type 0
IsWidth n = (n ≡ 16) ⊎ (n ≡ 32)

pub byte : (n : ℕ) (v : List ℕ) → IsLanes n v → (i : ℕ) → i < n → get_or v i 0 < 256
byte n v is i l = (Each1-get_or (Fits w8) v i 0 (omega (arith, is.0)) is.1).fits

-- ---- lookups
module _ (n : ℕ) (w : IsWidth n) {js : List ℕ} {f : ℕ → ℕ} (places : HasLanes n js f) (small : (k : ℕ) → k < n → f k < 16) where
  places_ok : SwzOk w8 16 n 0 js
  places_ok =
      let below = Each1-from_get_or (λ j. j < 16) js 0 (λ i l. (let k : i < n = omega (arith, places.long) in omega (arith, places.each i k, small i k))) in
      elim w [
        | inl e ↦ SwzOk-from_below w8 16 1 n 0 js e (omega (arith, places.long)) below
        | inr e ↦ SwzOk-from_below w8 16 2 n 0 js e (omega (arith, places.long)) below
      ]

  -- in a table whose second half equals the first
  pub looked_up : (t : List ℕ) → t ≡ take 16 t ++ take 16 t → length t ≡ 32 → HasLanes n (swz_l w8 16 (chunk 0 n t) 0 js) (λ k. get_or t (f k) 0)
  looked_up t doubled whole = record {
    long = length-swz_l w8 16 (chunk 0 n t) 0 js ∙ places.long;
    each = λ i l.
        let j = f i in
        let low : j < 16 = small i l in
        let half : length (take 16 t) ≡ 16 = length-take-le 16 t (omega (arith, whole)) in
        let back : (16 + j) - 16 ≡ j = omega arith in
        let copied : get_or t (16 + j) 0 ≡ get_or t j 0 =
        ap (λ xs. get_or xs (16 + j) 0) doubled ∙ get_or-append_right (take 16 t) (take 16 t) 16 (16 + j) 0 half (omega arith)
        ∙ ap (λ k. get_or (take 16 t) k 0) back ∙ get_or-take 16 t j 0 low in
        let loaded : (k : ℕ) → k < n → get_or (chunk 0 n t) k 0 ≡ get_or t k 0 =
        λ k m. (let e : 0 + k ≡ k = omega arith in get_or-chunk 0 n t k 0 m ∙ ap (λ m. get_or t m 0) e) in
        let read = get_or-swz_l_below w8 16 (chunk 0 n t) 0 js i (omega (arith, places.long)) (omega (arith, places.each i l, low)) in
        let first : i < 16 → 16 * ((0 + i) / 16) + get_or js i 0 ≡ j = λ k. omega (arith, places.each i l) in
        let second : 16 ≤ i → 16 * ((0 + i) / 16) + get_or js i 0 ≡ 16 + j = λ k. omega (arith, places.each i l, w) in
        read ∙ elim (cases_lt i 16) [
          | inl k ↦ ap (λ m. get_or (chunk 0 n t) m 0) (first k) ∙ loaded j (omega (arith, w, low))
          | inr k ↦ ap (λ m. get_or (chunk 0 n t) m 0) (second k) ∙ loaded (16 + j) (omega (arith, low, w, k, l)) ∙ copied
        ];
  }

-- the nibbles of a byte
abbrev pub shifted_down : ℕ → ℕ → ℕ
shifted_down a b = a / 2 ^ b

-- what two tables have for the high and the low nibble of each byte
abbrev pub by_nibbles : ℕ → List ℕ → List ℕ → List ℕ → List ℕ
by_nibbles n high low v = zip2 bit_and (swz_l w8 16 (chunk 0 n high) 0 (zip2 shifted_down v (replicate n 4)))
    (swz_l w8 16 (chunk 0 n low) 0 (zip2 bit_and v (replicate n 15)))

module _ (n : ℕ) (w : IsWidth n) (v : List ℕ) (is : IsLanes n v) where
  pub high_halves : HasLanes n (zip2 shifted_down v (replicate n 4)) (λ k. shifted_down (get_or v k 0) 4)
  high_halves = HasLanes-zip2 shifted_down (HasLanes-itself n v is.0) (HasLanes-splat n 4)

  pub low_halves : HasLanes n (zip2 bit_and v (replicate n 15)) (λ k. bit_and (get_or v k 0) 15)
  low_halves = HasLanes-zip2 bit_and (HasLanes-itself n v is.0) (HasLanes-splat n 15)

  pub high_small : (k : ℕ) → k < n → shifted_down (get_or v k 0) 4 < 16
  high_small k l = omega (arith, byte n v is k l)

  pub low_small : (k : ℕ) → k < n → bit_and (get_or v k 0) 15 < 16
  low_small k l = omega (arith, and_le_r (get_or v k 0) 15)

  pub high_places : SwzOk w8 16 n 0 (zip2 shifted_down v (replicate n 4))
  high_places = places_ok n w high_halves high_small

  pub low_places : SwzOk w8 16 n 0 (zip2 bit_and v (replicate n 15))
  low_places = places_ok n w low_halves low_small

  -- in two tables, by the high and by the low nibble
  pub both_looked_up : (high low : List ℕ) → high ≡ take 16 high ++ take 16 high → length high ≡ 32 → low ≡ take 16 low ++ take 16 low → length low ≡ 32
      → HasLanes n (by_nibbles n high low v) (λ k. bit_and (get_or high (get_or v k 0 / 16) 0) (get_or low (bit_and (get_or v k 0) 15) 0))
  both_looked_up high low twice long again whole =
      HasLanes-zip2 bit_and (looked_up n w high_halves high_small high twice long) (looked_up n w low_halves low_small low again whole)

-- ---- saturating subtraction of a splat
abbrev wrapping_less : ℕ → ℕ → ℕ
wrapping_less a b = (a + (2 ^ 8 - b)) % 2 ^ 8

-- the greater of each two lanes
abbrev greater : List ℕ → List ℕ → List ℕ
greater xs ys = sel_l (map (top 7) (zip2 (compared w8 ltb) xs ys)) ys xs

wrapping_less_is : (a b : ℕ) → a < 256 → b < 256 → wrapping_less (cond (ltb a b) b a) b ≡ a - b
wrapping_less_is a b l k = grind (arith, nat_tests)

pub difference : (n : ℕ) (xs : List ℕ) (y : ℕ) → IsLanes n xs → y < 256
    → HasLanes n (zip2 wrapping_less (greater xs (replicate n y)) (replicate n y)) (λ k. get_or xs k 0 - y)
difference n xs y is small =
    let X = HasLanes-itself n xs is.0 in
    let Y = HasLanes-splat n y in
    HasLanes_same (HasLanes-zip2 wrapping_less (chosen_by (tests_of w8 ltb X Y) Y X) Y) (λ k l. wrapping_less_is (get_or xs k 0) y (byte n xs is k l) small)

-- ---- the test
abbrev pub pairs_of : ℕ → List ℕ → List ℕ → List ℕ
pairs_of n a b = zip2 bit_and
    (by_nibbles n BYTE_1_HIGH BYTE_1_LOW a)
    (swz_l w8 16 (chunk 0 n BYTE_2_HIGH) 0 (zip2 shifted_down b (replicate n 4)))

abbrev pub lanes : ℕ → List ℕ → List ℕ → List ℕ → List ℕ → List ℕ
lanes n x y a b = zip2 bit_xor
    (zip2 bit_and (zip2 bit_or (zip2 wrapping_less (greater y (replicate n 0x60)) (replicate n 0x60))
    (zip2 wrapping_less (greater x (replicate n 0x70)) (replicate n 0x70))) (replicate n 0x80))
    (pairs_of n a b)

module _ (n : ℕ) (w : IsWidth n) (x y a b : List ℕ) (X : IsLanes n x) (Y : IsLanes n y) (A : IsLanes n a) (B : IsLanes n b) where
  lanes_are : HasLanes n (lanes n x y a b) (λ k. lane (get_or x k 0) (get_or y k 0) (get_or a k 0) (get_or b k 0))
  lanes_are =
      let thirds = HasLanes-zip2 bit_or (difference n y 0x60 Y (omega arith)) (difference n x 0x70 X (omega arith)) in
      let previous = both_looked_up n w a A BYTE_1_HIGH BYTE_1_LOW refl refl refl refl in
      let following = looked_up n w (high_halves n w b B) (high_small n w b B) BYTE_2_HIGH refl refl in
      HasLanes-zip2 bit_xor (HasLanes-zip2 bit_and thirds (HasLanes-splat n 0x80)) (HasLanes-zip2 bit_and previous following)

  lanes_follow : (i : ℕ) → i < n → get_or (lanes n x y a b) i 0 ≡ 0 → IsValidAfter (get_or x i 0) (get_or y i 0) (get_or a i 0) (get_or b i 0)
  lanes_follow i l e = lane_follows _ _ _ _ (byte n x X i l) (byte n y Y i l) (byte n a A i l) (byte n b B i l) (sym (lanes_are.each i l) ∙ e)

  lanes_long : length (lanes n x y a b) ≡ n
  lanes_long = lanes_are.long

-- ---- the same for a text
pub lanes_fit : (n : ℕ) {v : List ℕ} {f : ℕ → ℕ} → HasLanes n v f → ((k : ℕ) → Fits w8 (f k)) → IsLanes n v
lanes_fit n {v} h fits = (h.long, Each1-from_get_or (Fits w8) v 0 (λ i l. subst (Fits w8) (sym (h.each i (omega (arith, h.long)))) (fits i)))

zero_fits : (xs : List ℕ) → ((i : ℕ) → Fits w8 (get_or xs i 0)) → (i : ℕ) → Fits w8 (get_or (0 ∷ xs) i 0)
zero_fits xs fits zero = record { fits = omega arith }
zero_fits xs fits (suc i) = fits i

module _ (n : ℕ) (w : IsWidth n) (bs : List ℕ) (at : ℕ) (room : at + n ≤ length bs) (fits : (i : ℕ) → Fits w8 (get_or bs i 0)) {three two one : List ℕ}
    (x : HasLanes n three (λ k. get_or (0 ∷ 0 ∷ 0 ∷ bs) (at + k) 0)) (y : HasLanes n two (λ k. get_or (0 ∷ 0 ∷ bs) (at + k) 0))
    (a : HasLanes n one (λ k. get_or (0 ∷ bs) (at + k) 0)) where
  pub are_bytes : IsLanes n (chunk at n bs)
  are_bytes = lanes_fit n (HasLanes_load at n bs room) (λ k. fits (at + k))

  pub are_previous : IsLanes n one
  are_previous = lanes_fit n a (λ k. zero_fits bs fits (at + k))

  are_thirds : IsLanes n two
  are_thirds = lanes_fit n y (λ k. zero_fits (0 ∷ bs) (zero_fits bs fits) (at + k))

  are_fourths : IsLanes n three
  are_fourths = lanes_fit n x (λ k. zero_fits (0 ∷ 0 ∷ bs) (zero_fits (0 ∷ bs) (zero_fits bs fits)) (at + k))

  pub text_lanes_long : length (lanes n three two one (chunk at n bs)) ≡ n
  text_lanes_long = lanes_long n w three two one (chunk at n bs) are_fourths are_thirds are_previous are_bytes

  pub text_lanes_follow : (i : ℕ) → i < n → get_or (lanes n three two one (chunk at n bs)) i 0 ≡ 0 → IsValidAt bs (at + i)
  text_lanes_follow i l e =
      IsValidAt-lanes n bs at x y a i l (lanes_follow n w three two one (chunk at n bs) are_fourths are_thirds are_previous are_bytes i l e)
