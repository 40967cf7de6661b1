-- The UTF-8 of code units in four bytes each, of which a table selects and orders those of their UTF-8.
use Rattle.std.proofs.Common.{◌≡◌, ℕ, suc, ◌+◌, ◌-◌, ◌*◌, ◌/◌, ◌%◌, ◌^◌, ◌<◌, ◌≤◌, IsTrue, Bool, true, false, not, eqb, cond, inl, inr, replicate, Fits}
use Rattle.std.proofs.Common.{w16, List, [], ◌∷◌, ◌++◌, map, length, take, drop, get_or, encode_utf8, encode_utf8_all, length-append, bit_and, refl}
use Rattle.std.proofs.Common.{sym, ap, ◌∙◌, arith, subst, w8, leb, ltb, length-take-le, length-drop, take-append-drop, get_or-drop, get_or-take}
use Rattle.std.specs.Prelude.{nat_lt}
use Rattle.std.proofs.lemmas.Bool.{cases_lt, eqb-false, ltb-true, lt-ltb}
use Rattle.std.proofs.lemmas.Bool.Decides.{nat_tests}
use Rattle.std.proofs.lemmas.List.{take-map, get_or_append_left, get_or-append_right, get_or_past}
use Rattle.std.proofs.lemmas.Nat.{and_block, and_le_r, and_mask}
use Rattle.std.proofs.lemmas.Nat.Bits.{and_high_mask}
use Rattle.std.proofs.lemmas.Simd.{ones-mask_l_cons, get_or-replicate, Each1-from_get_or, Each1-get_or, mask_l-lt}
use Rattle.std.proofs.lemmas.Str.{encode_ascii, encodes-append, encodes-IsAscii}
use Rattle.std.proofs.str.Laws.{two, three}
use Rattle.std.specs.Int.RustNames.{count_ones}
use Rattle.std.specs.List.{range_with_len}
use lib.Count.{count_trailing_zeros}
use Rattle.std.specs.Simd.Lanes.{mask_l, pick_l, zip2, sel_l, top, Each1}
use Rattle.encoding_kernels.specs.Scans.{HasLanes}
use Rattle.encoding_kernels.specs.KeptBytes.{unit_places, length_classes, EncodesBy}
use Rattle.encoding_kernels.proofs.MaskPartLemmas.{mask_append}
use Rattle.encoding_kernels.proofs.VectorLemmas.{HasLanes-itself, HasLanes-numbers, HasLanes_same, HasLanes-splat, HasLanes-zip2, compared}
use Rattle.encoding_kernels.proofs.VectorLemmas.{firsts_are, mask_of, same_below, bytes_of_sixteen, sixteen_lanes, wide_sixteen, wide_sixteen_l}
use Rattle.encoding_kernels.proofs.MaskLemmas.{HasTests, tests_of, chosen_by, none_passes, run_is_first, less_lanes, less_words}
use Rattle.encoding_kernels.proofs.UniformLemmas.{mask_from, ones-none}
use Rattle.encoding_kernels.proofs.CodeUnitLemmas.{picked_lanes}

-- ---- the test
abbrev pub surrogates : List ℕ → List ℕ
surrogates us = zip2 (compared w16 eqb) (zip2 bit_and us (replicate 16 0xF800)) (replicate 16 0xD800)

module _ (us : List ℕ) (long : length us ≡ 16) (fit : Each1 (Fits w16) us) where
  tests : HasTests w16 16 (surrogates us) (λ k. eqb (bit_and (get_or us k 0) 0xF800) 0xD800)
  tests = tests_of w16 eqb (HasLanes-zip2 bit_and (HasLanes-itself 16 us long) (HasLanes-splat 16 0xF800)) (HasLanes-splat 16 0xD800)

  plain_lane : (k : ℕ) → k < 16 → eqb (bit_and (get_or us k 0) 0xF800) 0xD800 ≡ false → (0xD800 ≤ get_or us k 0) × (get_or us k 0 ≤ 0xDFFF) → ⊥
  plain_lane k l other r =
      let x = get_or us k 0 in
      let top_bits : bit_and x 0xF800 ≡ x / 2048 * 2048 = and_high_mask 16 11 (omega arith) x (Each1-get_or (Fits w16) us k 0 (omega (arith, long)) fit).fits in
      eqb-false _ _ other (omega (arith, top_bits, r.0, r.1))

  pub all_plain : IsTrue (not (not (eqb (mask_of 15 (surrogates us)) 0))) → (k : ℕ) → k < 16 → (0xD800 ≤ get_or us k 0) × (get_or us k 0 ≤ 0xDFFF) → ⊥
  all_plain t k l = plain_lane k l ((none_passes tests (omega arith)).0 t k l)

  -- the units before the first surrogate, by the mask
  pub before_first : (r : ℕ) → (mask_of 15 (surrogates us) ≡ 0 → r ≡ 16)
      → (0 < mask_of 15 (surrogates us) → r ≡ count_trailing_zeros 64 (mask_of 15 (surrogates us)))
      → (r ≤ 16) × ((k : ℕ) → k < r → (0xD800 ≤ get_or us k 0) × (get_or us k 0 ≤ 0xDFFF) → ⊥)
  before_first r none some =
      let first = run_is_first tests (omega arith) r none some in
      (first.within, λ k l. plain_lane k (omega (arith, first.within)) (first.before k l))

-- ---- only the first ones
abbrev pub first_lanes : ℕ → List ℕ → List ℕ
first_lanes n us = sel_l (map (top 15) (zip2 (compared w16 ltb) (range_with_len 0 16) (replicate 16 n))) us (replicate 16 0)

pub first_lanes_are : (n : ℕ) (us : List ℕ) → n ≤ 16 → length us ≡ 16 → first_lanes n us ≡ take n us ++ drop n (replicate 16 0)
first_lanes_are n us few long =
    firsts_are 16 n us (replicate 16 0) (first_lanes n us) long refl few
    (HasLanes_same (chosen_by (tests_of w16 ltb (HasLanes-numbers 16) (HasLanes-splat 16 n)) (HasLanes-itself 16 us long) (HasLanes-splat 16 0))
    (λ k l. ap (λ x. cond (ltb k n) (get_or us k 0) x) (sym (get_or-replicate 16 k 0 0 l))))

pub zeros_spelled : (n : ℕ) (us : List ℕ) → encode_utf8_all (take n us ++ drop n (replicate 16 0)) ≡ encode_utf8_all (take n us) ++ drop n (replicate 16 0)
zeros_spelled n us = encodes-append (take n us) (drop n (replicate 16 0))
    ∙ ap (λ xs. encode_utf8_all (take n us) ++ xs) (encodes-IsAscii (drop n (replicate 16 0)) (λ k. zero_at k))
  where
    zero_at : (k : ℕ) → get_or (drop n (replicate 16 0)) k 0 < 0x80
    zero_at k = elim (cases_lt (n + k) 16) [
      | inl l ↦ omega (arith, get_or-drop {A = ℕ} n (replicate 16 0) k 0, get_or-replicate {A = ℕ} 16 (n + k) 0 0 l)
      | inr l ↦ omega (arith, get_or-drop {A = ℕ} n (replicate 16 0) k 0, get_or_past {X = ℕ} (replicate 16 0) (n + k) 0 l)
    ]

-- ---- the classes
pub classes_long : (us : List ℕ) → length (length_classes us) ≡ 2 * length us
classes_long [] = refl
classes_long (u ∷ us) = omega (arith, classes_long us)

length_classes-append : (us vs : List ℕ) → length_classes (us ++ vs) ≡ length_classes us ++ length_classes vs
length_classes-append [] vs = refl
length_classes-append (u ∷ us) vs = ap (λ bs. nat_lt u 0x80 ∷ nat_lt u 0x800 ∷ bs) (length_classes-append us vs)

ascii_short : (u : ℕ) → nat_lt u 0x80 ≡ true → nat_lt u 0x800 ≡ true
ascii_short u e = lt-ltb u 0x800 (let l = ltb-true u 0x80 e in omega arith)

-- the mask of one half and of the other, n units each
halves_of : (us : List ℕ) (n : ℕ) → n ≤ length us
    → mask_l (length_classes us) ≡ mask_l (length_classes (drop n us)) * 2 ^ (2 * n) + mask_l (length_classes (take n us))
halves_of us n l =
    let prefix = length_classes (take n us) in
    let long : length prefix ≡ 2 * n = omega (arith, classes_long (take n us), length-take-le n us l) in
    ap (λ xs. mask_l (length_classes xs)) (sym (take-append-drop n us)) ∙ ap mask_l (length_classes-append (take n us) (drop n us))
    ∙ mask_append prefix (length_classes (drop n us))
    ∙ ap (λ k. mask_l (length_classes (drop n us)) * 2 ^ k + mask_l prefix) long

mask_below : (us : List ℕ) (n : ℕ) → length us ≡ n → mask_l (length_classes us) < 2 ^ (2 * n)
mask_below us n l = let long : length (length_classes us) ≡ 2 * n = omega (arith, classes_long us) in
    subst (λ k. mask_l (length_classes us) < 2 ^ k) long (mask_l-lt (length_classes us))

-- the masks of each four of sixteen units
module _ (us : List ℕ) (mask : ℕ) (long : length us ≡ 16) (is : mask ≡ mask_l (length_classes us)) where
  long_low : length (take 8 us) ≡ 8
  long_low = length-take-le 8 us (omega arith)

  long_high : length (drop 8 us) ≡ 8
  long_high = omega (arith, length-drop 8 us)

  pub four_masks : (bit_and mask 0xFF ≡ mask_l (length_classes (take 4 (take 8 us))))
      × (bit_and (mask / 2 ^ 8) 0xFF ≡ mask_l (length_classes (drop 4 (take 8 us))))
      × (bit_and (mask / 2 ^ 16) 0xFF ≡ mask_l (length_classes (take 4 (drop 8 us)))) × (mask / 2 ^ 24 ≡ mask_l (length_classes (drop 4 (drop 8 us))))
  four_masks =
      let whole = halves_of us 8 (omega arith) in
      let first = halves_of (take 8 us) 4 (omega (arith, long_low)) in
      let second = halves_of (drop 8 us) 4 (omega (arith, long_high)) in
      let a = mask_below (take 4 (take 8 us)) 4 (length-take-le 4 (take 8 us) (omega (arith, long_low))) in
      let b = mask_below (drop 4 (take 8 us)) 4 (omega (arith, long_low, length-drop 4 (take 8 us))) in
      let d = mask_below (take 4 (drop 8 us)) 4 (length-take-le 4 (drop 8 us) (omega (arith, long_high))) in (
        omega (arith, and_mask mask 8, is, whole, first, second, a, b, d),
        omega (arith, and_mask (mask / 2 ^ 8) 8, is, whole, first, second, a, b, d),
        omega (arith, and_mask (mask / 2 ^ 16) 8, is, whole, first, second, a, b, d),
        omega (arith, is, whole, first, second, a, b, d),
      )

-- ---- the bytes at these indices
unit_step : (get : ℕ → ℕ) (at : ℕ) (a s : Bool) (ks spelled rest : List ℕ)
    → cond a (get at ∷ []) (cond s (get (at + 3) ∷ get (at + 1) ∷ []) (get (at + 2) ∷ get (at + 3) ∷ get (at + 1) ∷ [])) ≡ spelled → map get ks ≡ rest
    → map get (cond a (at ∷ []) (cond s ((at + 3) ∷ (at + 1) ∷ []) ((at + 2) ∷ (at + 3) ∷ (at + 1) ∷ [])) ++ ks) ≡ spelled ++ rest
unit_step get at true s ks spelled rest e r = ap (λ xs. get at ∷ xs) r ∙ ap (λ xs. xs ++ rest) e
unit_step get at false true ks spelled rest e r = ap (λ xs. get (at + 3) ∷ get (at + 1) ∷ xs) r ∙ ap (λ xs. xs ++ rest) e
unit_step get at false false ks spelled rest e r = ap (λ xs. get (at + 2) ∷ get (at + 3) ∷ get (at + 1) ∷ xs) r ∙ ap (λ xs. xs ++ rest) e

-- the UTF-8 of u is made of the four bytes at an index
abbrev pub EncodesAt : (ℕ → ℕ) → ℕ → ℕ → Type 0
EncodesAt get u at = EncodesBy u (get at) (get (at + 1)) (get (at + 2)) (get (at + 3))

units_spell : (get : ℕ → ℕ) (us : List ℕ) (at : ℕ) → ((k : ℕ) → k < length us → EncodesAt get (get_or us k 0) (at + 4 * k))
    → map get (unit_places at (length_classes us)) ≡ encode_utf8_all us
units_spell get [] at h = refl
units_spell get (u ∷ us) at h =
    let first : at + 4 * 0 ≡ at = omega arith in
    let here : EncodesAt get u at = subst (EncodesAt get u) first (h 0 (omega arith)) in
    let more : (k : ℕ) → k < length us → EncodesAt get (get_or us k 0) (at + 4 + 4 * k) = λ k l.
    let e : at + 4 * suc k ≡ at + 4 + 4 * k = omega arith in
    subst (EncodesAt get (get_or us k 0)) e (h (suc k) (omega arith)) in
    unit_step get at (nat_lt u 0x80) (nat_lt u 0x800) _ _ _ here (units_spell get us (at + 4) more)

pub spelled_four : (us places : List ℕ) (get : ℕ → ℕ) (count : ℕ) → take count places ≡ unit_places 0 (length_classes us)
    → ((k : ℕ) → k < length us → EncodesAt get (get_or us k 0) (4 * k)) → take count (map get places) ≡ encode_utf8_all us
spelled_four us places get count kept spells =
    take-map get count places ∙ ap (map get) kept
    ∙ units_spell get us 0 (λ k i. let e : 4 * k ≡ 0 + 4 * k = omega arith in subst (EncodesAt get (get_or us k 0)) e (spells k i))

-- ---- four vectors of four
pub four_parts : (us a b d e : List ℕ) → a ≡ encode_utf8_all (take 4 (take 8 us)) → b ≡ encode_utf8_all (drop 4 (take 8 us))
    → d ≡ encode_utf8_all (take 4 (drop 8 us)) → e ≡ encode_utf8_all (drop 4 (drop 8 us))
    → (a ++ b) ++ (d ++ e) ≡ encode_utf8_all us
four_parts us a b d e p q r s = (λ i. (p i ++ q i) ++ (r i ++ s i)) ∙ (λ i. joined (take 8 us) i ++ joined (drop 8 us) i)
    ∙ sym (encodes-append (take 8 us) (drop 8 us)) ∙ ap encode_utf8_all (take-append-drop 8 us)
  where
    joined : (xs : List ℕ) → encode_utf8_all (take 4 xs) ++ encode_utf8_all (drop 4 xs) ≡ encode_utf8_all xs
    joined xs = sym (encodes-append (take 4 xs) (drop 4 xs)) ∙ ap encode_utf8_all (take-append-drop 4 xs)

-- ---- the vector of classes
abbrev pub class_word : ℕ → ℕ
class_word u = ((0x807F - u) / 2 ^ 8 + bit_and (0x87FF - u) 0xFF00) % 2 ^ 16

abbrev pub class_words : List ℕ → List ℕ
class_words us = zip2 (λ a b. (a + b) % 2 ^ 16) (zip2 (λ a b. a / 2 ^ b) (less_words 0x807F us) (replicate 16 8))
    (zip2 bit_and (less_words 0x87FF us) (replicate 16 0xFF00))

class_bytes : (u : ℕ) → (leb 0x80 (class_word u % 256) ≡ ltb u 0x80) × (leb 0x80 (class_word u / 256) ≡ ltb u 0x800)
class_bytes u =
    let high : bit_and (0x87FF - u) 0xFF00 ≡ (0x87FF - u) / 256 * 256 = and_high_mask 16 8 (omega arith) (0x87FF - u) (omega arith) in
    (grind (arith, nat_tests, high), grind (arith, nat_tests, high))

class_list : (us bs : List ℕ) → length bs ≡ 2 * length us
    → ((k : ℕ) → k < length us
    → (leb 0x80 (get_or bs (2 * k) 0) ≡ nat_lt (get_or us k 0) 0x80) × (leb 0x80 (get_or bs (2 * k + 1) 0) ≡ nat_lt (get_or us k 0) 0x800))
    → map (leb 0x80) bs ≡ length_classes us
class_list [] [] e h = refl
class_list [] (b ∷ bs) e h = absurd (omega arith)
class_list (u ∷ us) [] e h = absurd (omega arith)
class_list (u ∷ us) (a ∷ []) e h = absurd (omega arith)
class_list (u ∷ us) (a ∷ b ∷ bs) e h =
    let first = h 0 (omega arith) in
    let rest = class_list us bs (omega arith) (λ k l.
    let even : suc (suc (2 * k)) ≡ 2 * suc k = omega arith in
    let odd : suc (suc (2 * k + 1)) ≡ 2 * suc k + 1 = omega arith in
    let next = h (suc k) (omega arith) in
    (ap (λ j. leb 0x80 (get_or (a ∷ b ∷ bs) j 0)) even ∙ next.0, ap (λ j. leb 0x80 (get_or (a ∷ b ∷ bs) j 0)) odd ∙ next.1)) in
    λ i. first.0 i ∷ first.1 i ∷ rest i

module _ (us : List ℕ) (long : length us ≡ 16) (fit : Each1 (Fits w16) us) where
  class_lanes : HasLanes 16 (class_words us) (λ k. class_word (get_or us k 0))
  class_lanes =
      HasLanes-zip2 (λ a b. (a + b) % 2 ^ 16)
      (HasLanes-zip2 (λ a b. a / 2 ^ b) (less_lanes 0x807F us (omega arith) long fit) (HasLanes-splat 16 8))
      (HasLanes-zip2 bit_and (less_lanes 0x87FF us (omega arith) long fit) (HasLanes-splat 16 0xFF00))

  classes_are : map (leb 0x80) (bytes_of_sixteen (class_words us)) ≡ length_classes us
  classes_are =
      let double : length (bytes_of_sixteen (class_words us)) ≡ 2 * length us = omega (arith, long) in
      class_list us (bytes_of_sixteen (class_words us)) double (λ k l.
      let bytes = sixteen_lanes class_lanes (λ i m. omega arith) k (omega arith) in
      let is = class_bytes (get_or us k 0) in
      (ap (leb 0x80) bytes.0 ∙ is.0, ap (leb 0x80) bytes.1 ∙ is.1))

  -- the mask of its bytes
  pub mask_is_classes : mask_of 7 (zip2 (compared w8 leb) (replicate 32 0x80) (bytes_of_sixteen (class_words us))) ≡ mask_l (length_classes us)
  mask_is_classes = mask_from w8 32 0x80 (bytes_of_sixteen (class_words us)) refl (omega arith) ∙ ap mask_l classes_are

-- ---- two words of a code unit
-- its lower byte, twice
abbrev pub lower_word : ℕ → ℕ
lower_word u = u % 256 + 256 * (u % 256)

abbrev pub last_word : ℕ → ℕ
last_word u = (bit_and (lower_word u) 0x3F7F + 0x8000) % 2 ^ 16

abbrev pub lead_word : ℕ → ℕ
lead_word u = ((u / 2 ^ 12 + bit_and (u * 2 ^ 2 % 2 ^ 16) 0x3F00) % 2 ^ 16 + (bit_and ((0x87FF - u) / 2 ^ 1) 0x4000 + 0x80E0) % 2 ^ 16) % 2 ^ 16

-- the index of the lower byte of each of sixteen code units, twice
abbrev pub lower_indices : List ℕ
lower_indices = 0 ∷ 0 ∷ 2 ∷ 2 ∷ 4 ∷ 4 ∷ 6 ∷ 6 ∷ 8 ∷ 8 ∷ 10 ∷ 10 ∷ 12 ∷ 12 ∷ 14 ∷ 14 ∷ 16 ∷ 16 ∷ 18 ∷ 18 ∷ 20 ∷ 20 ∷ 22 ∷ 22 ∷ 24 ∷ 24 ∷ 26 ∷ 26 ∷
    28 ∷ 28 ∷ 30 ∷ 30 ∷ []

abbrev pub lower_bytes : List ℕ → List ℕ
lower_bytes us = pick_l 0 (bytes_of_sixteen us ++ bytes_of_sixteen us) lower_indices

abbrev pub last_words : List ℕ → List ℕ
last_words us = zip2 (λ a b. (a + b) % 2 ^ 16) (zip2 bit_and (wide_sixteen_l (lower_bytes us)) (replicate 16 0x3F7F)) (replicate 16 0x8000)

abbrev pub lead_words : List ℕ → List ℕ
lead_words us = zip2 (λ a b. (a + b) % 2 ^ 16)
    (zip2 (λ a b. (a + b) % 2 ^ 16) (zip2 (λ a b. a / 2 ^ b) us (replicate 16 12))
    (zip2 bit_and (zip2 (λ a b. a * 2 ^ b % 2 ^ 16) us (replicate 16 2)) (replicate 16 0x3F00)))
    (zip2 (λ a b. (a + b) % 2 ^ 16)
    (zip2 bit_and (zip2 (λ a b. a / 2 ^ b) (less_words 0x87FF us) (replicate 16 1)) (replicate 16 0x4000)) (replicate 16 0x80E0))

module _ (us : List ℕ) (long : length us ≡ 16) (fit : Each1 (Fits w16) us) where
  lower_byte : (k : ℕ) → k < 32 → get_or (lower_bytes us) k 0 ≡ get_or us (k / 2) 0 % 256
  lower_byte k l =
      let bytes = bytes_of_sixteen us in
      let units = sixteen_lanes (HasLanes-itself 16 us long) (λ i m. (Each1-get_or (Fits w16) us i 0 (omega (arith, long)) fit).fits) in
      (picked_lanes 32 (bytes ++ bytes) lower_indices refl).each k l
      ∙ ap (λ j. get_or (bytes ++ bytes) j 0) (same_below (λ i. get_or lower_indices i 0) (λ i. 2 * (i / 2)) 0 32 refl k l)
      ∙ get_or_append_left bytes bytes 0 (2 * (k / 2)) (omega arith) ∙ (units (k / 2) (omega arith)).0

  lower_lanes : HasLanes 16 (wide_sixteen_l (lower_bytes us)) (λ k. lower_word (get_or us k 0))
  lower_lanes =
      let small : Each1 (λ x. x < 256) (lower_bytes us) = Each1-from_get_or (λ x. x < 256) (lower_bytes us) 0 (λ k l. omega (arith, lower_byte k l)) in
      HasLanes_same (wide_sixteen (lower_bytes us) refl small) (λ k l.
      let even : 2 * k / 2 ≡ k = omega arith in
      let odd : (2 * k + 1) / 2 ≡ k = omega arith in
      let first = lower_byte (2 * k) (omega arith) ∙ ap (λ j. get_or us j 0 % 256) even in
      let second = lower_byte (2 * k + 1) (omega arith) ∙ ap (λ j. get_or us j 0 % 256) odd in
      λ i. first i + 256 * second i)

  pub last_lanes : HasLanes 16 (last_words us) (λ k. last_word (get_or us k 0))
  last_lanes = HasLanes-zip2 (λ a b. (a + b) % 2 ^ 16) (HasLanes-zip2 bit_and lower_lanes (HasLanes-splat 16 0x3F7F)) (HasLanes-splat 16 0x8000)

  pub lead_lanes : HasLanes 16 (lead_words us) (λ k. lead_word (get_or us k 0))
  lead_lanes =
      let units = HasLanes-itself 16 us long in
      let right = λ (a b : ℕ). a / 2 ^ b in
      let add = λ (a b : ℕ). (a + b) % 2 ^ 16 in
      let below = less_lanes 0x87FF us (omega arith) long fit in
      let middle = HasLanes-zip2 bit_and (HasLanes-zip2 (λ a b. a * 2 ^ b % 2 ^ 16) units (HasLanes-splat 16 2)) (HasLanes-splat 16 0x3F00) in
      let mark = HasLanes-zip2 add (HasLanes-zip2 bit_and (HasLanes-zip2 right below (HasLanes-splat 16 1)) (HasLanes-splat 16 0x4000))
      (HasLanes-splat 16 0x80E0) in
      HasLanes-zip2 add (HasLanes-zip2 add (HasLanes-zip2 right units (HasLanes-splat 16 12)) middle) mark

-- the bits that the masks keep
kept_lower : (b : ℕ) → b < 256 → bit_and (b + 256 * b) 0x3F7F ≡ b % 64 * 256 + b % 128
kept_lower b l =
    let split : b + 256 * b ≡ b * 2 ^ 8 + b = omega arith in
    ap (λ x. bit_and x 0x3F7F) split ∙ and_block 8 b 0x3F b 0x7F l (omega arith) ∙ (λ i. and_mask b 6 i * 2 ^ 8 + and_mask b 7 i)

kept_middle : (x : ℕ) → bit_and x 0x3F00 ≡ x / 256 % 64 * 256
kept_middle x =
    let split : x ≡ x / 256 * 2 ^ 8 + x % 256 = omega arith in
    let none : bit_and (x % 256) 0 ≡ 0 = omega (arith, and_le_r (x % 256) 0) in
    ap (λ y. bit_and y 0x3F00) split ∙ and_block 8 (x / 256) 0x3F (x % 256) 0 (omega arith) (omega arith) ∙ (λ i. and_mask (x / 256) 6 i * 2 ^ 8 + none i)
    ∙ omega arith

kept_mark : (x : ℕ) → bit_and x 0x4000 ≡ x / 0x4000 % 2 * 0x4000
kept_mark x =
    let split : x ≡ x / 0x4000 * 2 ^ 14 + x % 0x4000 = omega arith in
    let none : bit_and (x % 0x4000) 0 ≡ 0 = omega (arith, and_le_r (x % 0x4000) 0) in
    ap (λ y. bit_and y 0x4000) split ∙ and_block 14 (x / 0x4000) 1 (x % 0x4000) 0 (omega arith) (omega arith)
    ∙ (λ i. and_mask (x / 0x4000) 1 i * 2 ^ 14 + none i)
    ∙ omega arith

spells_by : (u : ℕ) → u < 2 ^ 16 → EncodesBy u (last_word u % 0x100) (last_word u / 0x100) (lead_word u % 0x100) (lead_word u / 0x100)
spells_by u h =
    let low = kept_lower (u % 256) (omega arith) in
    let middle = kept_middle (u * 2 ^ 2 % 2 ^ 16) in
    let mark = kept_mark ((0x87FF - u) / 2 ^ 1) in
    grind (arith, nat_tests, low, middle, mark, two u, three u, encode_ascii u)

-- the length of the UTF-8
unit_count : (a s : Bool) (x y z w : ℕ) (spelled : List ℕ) → (a ≡ true → s ≡ true) → cond a (x ∷ []) (cond s (w ∷ y ∷ []) (z ∷ w ∷ y ∷ [])) ≡ spelled
    → length spelled + (cond a 1 0 + cond s 1 0) ≡ 3
unit_count true true x y z w spelled v e = omega (arith, ap length e)
unit_count true false x y z w spelled v e = grind (arith, nat_tests, v)
unit_count false true x y z w spelled v e = omega (arith, ap length e)
unit_count false false x y z w spelled v e = omega (arith, ap length e)

pub encoded_long : (us : List ℕ) → Each1 (Fits w16) us → length (encode_utf8_all us) + count_ones (mask_l (length_classes us)) ≡ 3 * length us
encoded_long [] fit = omega (arith, ones-none)
encoded_long (u ∷ us) fit =
    let here = unit_count (nat_lt u 0x80) (nat_lt u 0x800) _ _ _ _ (encode_utf8 u) (ascii_short u) (spells_by u (omega (arith, fit.0.fits))) in
    omega (
      arith,
      here,
      length-append (encode_utf8 u) (encode_utf8_all us),
      encoded_long us fit.1,
      ones-mask_l_cons (nat_lt u 0x80)
          (nat_lt u 0x800 ∷ length_classes us),
      ones-mask_l_cons (nat_lt u 0x800) (length_classes us),
    )

encode_again : (u : ℕ) {x y z w x2 y2 z2 w2 : ℕ} → x ≡ x2 → y ≡ y2 → z ≡ z2 → w ≡ w2 → EncodesBy u x2 y2 z2 w2 → EncodesBy u x y z w
encode_again u p q r t s = (λ i. cond (nat_lt u 0x80) (p i ∷ []) (cond (nat_lt u 0x800) (t i ∷ q i ∷ []) (r i ∷ t i ∷ q i ∷ []))) ∙ s

-- the UTF-8 of u is made of the bytes of two words
abbrev pub EncodesWords : ℕ → ℕ → ℕ → Type 0
EncodesWords u x y = EncodesBy u (x % 0x100) (x / 0x100) (y % 0x100) (y / 0x100)

pub words_spell : (us : List ℕ) → length us ≡ 16 → Each1 (Fits w16) us → (k : ℕ) → k < 16
    → EncodesWords (get_or us k 0) (get_or (last_words us) k 0) (get_or (lead_words us) k 0)
words_spell us long fit k l =
    let last = (last_lanes us long fit).each k l in
    let lead = (lead_lanes us long fit).each k l in
    encode_again (get_or us k 0) (ap (λ x. x % 0x100) last) (ap (λ x. x / 0x100) last) (ap (λ x. x % 0x100) lead) (ap (λ x. x / 0x100) lead)
    (spells_by (get_or us k 0) (Each1-get_or (Fits w16) us k 0 (omega (arith, long)) fit).fits)

pub words_small : (us : List ℕ) → length us ≡ 16 → Each1 (Fits w16) us → (k : ℕ) → k < 16
    → (get_or (last_words us) k 0 < 0x10000) × (get_or (lead_words us) k 0 < 0x10000)
words_small us long fit k l =
    let last : last_word (get_or us k 0) < 0x10000 = omega arith in
    let lead : lead_word (get_or us k 0) < 0x10000 = omega arith in (
      subst (λ x. x < 0x10000) (sym ((last_lanes us long fit).each k l)) last,
      subst (λ x. x < 0x10000) (sym ((lead_lanes us long fit).each k l)) lead,
    )

-- both words of eight code units, next to each other
module _ (us first second ks : List ℕ) (f : ℕ → ℕ) (half : (k : ℕ) → k < 8 → f k < 16) (firsts : length first ≡ 16)
    (seconds : length second ≡ 16) (small : (k : ℕ)
    → k < 16 → (get_or first k 0 < 0x10000) × (get_or second k 0 < 0x10000))
    (long : length ks ≡ 16) (evens : map (λ k. get_or ks (2 * k) 0) (range_with_len 0 8) ≡ map f (range_with_len 0 8))
    (odds : map (λ k. get_or ks (2 * k + 1) 0) (range_with_len 0 8) ≡ map (λ k. 16 + f k) (range_with_len 0 8)) where
  abbrev words : List ℕ
  words = pick_l 0 (first ++ second) ks

  even_word : (k : ℕ) → k < 8 → get_or words (2 * k) 0 ≡ get_or first (f k) 0
  even_word k l = (picked_lanes 16 (first ++ second) ks long).each (2 * k) (omega arith)
      ∙ ap (λ j. get_or (first ++ second) j 0) (same_below (λ i. get_or ks (2 * i) 0) f 0 8 evens k l)
      ∙ get_or_append_left first second 0 (f k) (omega (arith, firsts, half k l))

  odd_word : (k : ℕ) → k < 8 → get_or words (2 * k + 1) 0 ≡ get_or second (f k) 0
  odd_word k l =
      let back : 16 + (f k) - 16 ≡ f k = omega arith in
      (picked_lanes 16 (first ++ second) ks long).each (2 * k + 1) (omega arith)
      ∙ ap (λ j. get_or (first ++ second) j 0) (same_below (λ i. get_or ks (2 * i + 1) 0) (λ i. 16 + f i) 0 8 odds k l)
      ∙ get_or-append_right first second 16 (16 + (f k)) 0 firsts (omega arith) ∙ ap (λ j. get_or second j 0) back

  word_small : (i : ℕ) → i < 16 → get_or words i 0 < 65536
  word_small i l = elim (cases_lt (i % 2) 1) [
    | inl m ↦
        let e : 2 * (i / 2) ≡ i = omega arith in
        subst (λ j. get_or words j 0 < 65536) e
        (subst (λ x. x < 65536) (sym (even_word (i / 2) (omega arith))) ((small (f (i / 2)) (half (i / 2) (omega arith))).0))
    | inr m ↦
        let e : 2 * (i / 2) + 1 ≡ i = omega arith in
        subst (λ j. get_or words j 0 < 65536) e
        (subst (λ x. x < 65536) (sym (odd_word (i / 2) (omega arith))) ((small (f (i / 2)) (half (i / 2) (omega arith))).1))
  ]

  pub four_spelled : ((k : ℕ) → k < 16 → EncodesWords (get_or us k 0) (get_or first k 0) (get_or second k 0)) → (k : ℕ) → k < 8
      → EncodesAt (λ j. get_or (bytes_of_sixteen (pick_l 0 (first ++ second) ks)) j 0) (get_or us (f k) 0) (4 * k)
  four_spelled spells k l =
      let bytes = sixteen_lanes (HasLanes-itself 16 words (picked_lanes 16 (first ++ second) ks long).long) word_small in
      let at = λ (i : ℕ). get_or (bytes_of_sixteen words) i 0 in
      let even = even_word k l in
      let odd = odd_word k l in
      let place : 4 * k ≡ 2 * (2 * k) = omega arith in
      let next : 4 * k + 1 ≡ 2 * (2 * k) + 1 = omega arith in
      let third : 4 * k + 2 ≡ 2 * (2 * k + 1) = omega arith in
      let last : 4 * k + 3 ≡ 2 * (2 * k + 1) + 1 = omega arith in
      encode_again (get_or us (f k) 0) (ap at place ∙ (bytes (2 * k) (omega arith)).0 ∙ ap (λ x. x % 256) even)
      (ap at next ∙ (bytes (2 * k) (omega arith)).1 ∙ ap (λ x. x / 256) even) (ap at third ∙ (bytes (2 * k + 1) (omega arith)).0 ∙ ap (λ x. x % 256) odd)
      (ap at last ∙ (bytes (2 * k + 1) (omega arith)).1 ∙ ap (λ x. x / 256) odd) (spells (f k) (half k l))

-- ---- the bytes of four of sixteen units, in the first half of a vector or in the other
module _ (us bytes part : List ℕ) (f : ℕ → ℕ) (spells : (k : ℕ) → k < 8 → EncodesAt (λ j. get_or bytes j 0) (get_or us (f k) 0) (4 * k)) where
  pub lower_four : ((k : ℕ) → k < 4 → get_or part k 0 ≡ get_or us (f k) 0) → (k : ℕ) → k < 4 → EncodesAt (λ j. get_or bytes j 0) (get_or part k 0) (4 * k)
  lower_four is k l = subst (λ u. EncodesAt (λ j. get_or bytes j 0) u (4 * k)) (sym (is k l)) (spells k (omega arith))

  pub upper_four : ((k : ℕ) → k < 4 → get_or part k 0 ≡ get_or us (f (4 + k)) 0) → (k : ℕ) → k < 4
      → EncodesAt (λ j. get_or bytes (16 + j) 0) (get_or part k 0) (4 * k)
  upper_four is k l =
      let at = λ (j : ℕ). get_or bytes j 0 in
      let place : 16 + 4 * k ≡ 4 * (4 + k) = omega arith in
      let next : 16 + (4 * k + 1) ≡ 4 * (4 + k) + 1 = omega arith in
      let third : 16 + (4 * k + 2) ≡ 4 * (4 + k) + 2 = omega arith in
      let last : 16 + (4 * k + 3) ≡ 4 * (4 + k) + 3 = omega arith in
      encode_again (get_or part k 0) (ap at place) (ap at next) (ap at third) (ap at last)
      (subst (λ u. EncodesAt at u (4 * (4 + k))) (sym (is k l)) (spells (4 + k) (omega arith)))

-- which of sixteen units these are
module _ (us : List ℕ) (k : ℕ) (l : k < 4) where
  pub unit_of_first : get_or (take 4 (take 8 us)) k 0 ≡ get_or us (k / 4 * 4 + k) 0
  unit_of_first = let e : k ≡ k / 4 * 4 + k = omega arith in get_or-take 4 (take 8 us) k 0 l ∙ get_or-take 8 us k 0 (omega arith) ∙ ap (λ j. get_or us j 0) e

  pub unit_of_second : get_or (drop 4 (take 8 us)) k 0 ≡ get_or us (k / 4 * 4 + k + 4) 0
  unit_of_second = let e : 4 + k ≡ k / 4 * 4 + k + 4 = omega arith in get_or-drop 4 (take 8 us) k 0 ∙ get_or-take 8 us (4 + k) 0 (omega arith)
      ∙ ap (λ j. get_or us j 0) e

  pub unit_of_third : get_or (take 4 (drop 8 us)) k 0 ≡ get_or us ((4 + k) / 4 * 4 + (4 + k)) 0
  unit_of_third = let e : 8 + k ≡ (4 + k) / 4 * 4 + (4 + k) = omega arith in get_or-take 4 (drop 8 us) k 0 l ∙ get_or-drop 8 us k 0 ∙ ap (λ j. get_or us j 0) e

  pub unit_of_fourth : get_or (drop 4 (drop 8 us)) k 0 ≡ get_or us ((4 + k) / 4 * 4 + (4 + k) + 4) 0
  unit_of_fourth = let e : 8 + (4 + k) ≡ (4 + k) / 4 * 4 + (4 + k) + 4 = omega arith in get_or-drop 4 (drop 8 us) k 0 ∙ get_or-drop 8 us (4 + k) 0
      ∙ ap (λ j. get_or us j 0) e
