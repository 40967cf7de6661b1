-- The UTF-8 of code units that have the same number of bytes. Below U+0800: from both bytes of each and the indices that
-- are kept. From U+0800 on: three bytes each.
use Rattle.std.proofs.Common.{◌≡◌, ℕ, suc, ◌+◌, ◌*◌, ◌/◌, ◌%◌, ◌^◌, ◌<◌, ◌≤◌, Bool, true, false, cond, List, [], ◌∷◌, ◌++◌, map, length}
use Rattle.std.proofs.Common.{take, get_or, encode_utf8_all, bit_and, replicate, refl, sym, ap, ◌∙◌, arith, subst, w16, zero, ◌-◌, eqb}
use Rattle.std.proofs.Common.{IsTrue, not, encode_utf8, bit_or, drop, length-append, length-take-le, length-drop, append_assoc, Fits}
use Rattle.std.specs.Prelude.{nat_le}
use Rattle.std.proofs.lemmas.Bool.Decides.{nat_tests}
use Rattle.std.proofs.lemmas.Grind.{same_number_lists}
use Rattle.std.proofs.lemmas.List.{length-map, get_or-map, take-map, take_all, take_at, drop_at, drop-drop, get_or_append_left, get_or-append_right}
use Rattle.std.proofs.lemmas.Simd.{ones-mask_l_cons, swz_l, tops_compared, zip2_splat_left, mask_l-mod}
use Rattle.std.proofs.lemmas.Simd.{Each1-get_or, length-put_chunk, pick_l_left, pick_l-range_with_len}
use Rattle.std.proofs.lemmas.Nat.{and_mask}
use Rattle.std.proofs.lemmas.Str.{encode_ascii}
use Rattle.std.proofs.str.Laws.{two, three}
use Rattle.std.specs.Int.RustNames.{count_ones}
use Rattle.std.specs.Simd.Lanes.{mask_l, top, zip2, sel_l, Each1, pick_l, put_chunk}
use lib.Dec.{leb}
use mir.Syntax.{Width, w8}
use mir.Val.{hbits}
use Rattle.encoding_kernels.specs.Scans.{HasLanes}
use Rattle.encoding_kernels.specs.KeptBytes.{kept_places, EncodesTo}
use Rattle.encoding_kernels.proofs.VectorLemmas.{HasLanes-itself, HasLanes-splat, HasLanes-zip2, HasLanes-swizzle, compared}
use Rattle.encoding_kernels.proofs.VectorLemmas.{mask_of, bytes_of_sixteen, sixteen_lanes, put_is, bytes_of, bytes_lanes}
use Rattle.encoding_kernels.proofs.MaskLemmas.{chosen_by, tests_of, none_passes, tests_or}
use Rattle.std.proofs.lemmas.Bool.{eqb-false, or_parts}
use Rattle.std.specs.List.{range_with_len}
use Rattle.std.proofs.lemmas.Nat.Bits.{and_high_mask}

-- ---- how many indices are kept
pub ones-none : count_ones 0 ≡ 0
unfolding count_ones
ones-none = refl

kept_long : (at : ℕ) (bs : List Bool) → length (kept_places at bs) ≡ length bs + count_ones (mask_l bs)
kept_long at [] = omega (arith, ones-none)
kept_long at (b ∷ bs) = let rest = kept_long (at + 2) bs in grind (arith, nat_tests, rest, ones-mask_l_cons b bs)

-- ---- the bytes at these indices
pub kept_step : (get : ℕ → ℕ) (at : ℕ) (b : Bool) (ks spelled rest : List ℕ) → cond b (get at ∷ get (at + 1) ∷ []) (get at ∷ []) ≡ spelled → map get ks ≡ rest
    → map get (cond b (at ∷ (at + 1) ∷ []) (at ∷ []) ++ ks) ≡ spelled ++ rest
kept_step get at false ks spelled rest e r = ap (λ xs. get at ∷ xs) r ∙ ap (λ xs. xs ++ rest) e
kept_step get at true ks spelled rest e r = ap (λ xs. get at ∷ get (at + 1) ∷ xs) r ∙ ap (λ xs. xs ++ rest) e

pub kept_spell : (get : ℕ → ℕ) (us : List ℕ) (at : ℕ) → ((k : ℕ) → k < length us → EncodesTo (get_or us k 0) (get (at + 2 * k)) (get (at + 2 * k + 1)))
    → map get (kept_places at (map (nat_le 0x80) us)) ≡ encode_utf8_all us
kept_spell get [] at h = refl
kept_spell get (u ∷ us) at h =
    let first : at + 2 * 0 ≡ at = omega arith in
    let here : EncodesTo u (get at) (get (at + 1)) = subst (λ k. EncodesTo u (get k) (get (k + 1))) first (h 0 (omega arith)) in
    let more : (k : ℕ) → k < length us → EncodesTo (get_or us k 0) (get (at + 2 + 2 * k)) (get (at + 2 + 2 * k + 1)) = λ k l.
    let e : at + 2 * suc k ≡ at + 2 + 2 * k = omega arith in
    subst (λ j. EncodesTo (get_or us k 0) (get j) (get (j + 1))) e (h (suc k) (omega arith)) in
    kept_step get at (nat_le 0x80 u) _ _ _ here (kept_spell get us (at + 2) more)

-- a lookup of indices in a vector
pub looked_up : (bytes places : List ℕ) → length places ≡ 16 → ((k : ℕ) → k < 16 → get_or places k 0 < 16)
    → swz_l w8 16 bytes 0 places ≡ map (λ j. get_or bytes j 0) places
looked_up bytes places long small =
    let lanes = HasLanes-swizzle bytes (HasLanes-itself 16 places long) small in
    same_number_lists (swz_l w8 16 bytes 0 places) (map (λ j. get_or bytes j 0) places)
    (omega (arith, lanes.long, length-map places (λ j. get_or bytes j 0))) (λ k l.
    lanes.each k (omega (arith, lanes.long)) ∙ sym (get_or-map (λ j. get_or bytes j 0) places k 0 0 (omega (arith, lanes.long))))

-- the bytes at the indices that the mask keeps
pub kept_of : (tests : List Bool) (get : ℕ → ℕ) (places : List ℕ) (mask : ℕ) → length tests ≡ 8 → mask ≡ mask_l tests
    → take (length (kept_places 0 tests)) places ≡ kept_places 0 tests → take (8 + count_ones mask) (map get places) ≡ map get (kept_places 0 tests)
kept_of tests get places mask l m kept =
    let count : 8 + count_ones mask ≡ length (kept_places 0 tests) = omega (arith, kept_long 0 tests, ap count_ones m) in
    ap (λ n. take n (map get places)) count ∙ take-map get (length (kept_places 0 tests)) places ∙ ap (map get) kept

pub compressed : (tests : List Bool) (bytes places : List ℕ) (mask : ℕ) → length tests ≡ 8 → length places ≡ 16 → ((k : ℕ) → k < 16 → get_or places k 0 < 16)
    → mask ≡ mask_l tests
    → take (length (kept_places 0 tests)) places ≡ kept_places 0 tests
    → take (8 + count_ones mask) (swz_l w8 16 bytes 0 places) ≡ map (λ j. get_or bytes j 0) (kept_places 0 tests)
compressed tests bytes places mask l long small m kept = ap (take (8 + count_ones mask)) (looked_up bytes places long small)
    ∙ kept_of tests (λ j. get_or bytes j 0) places mask l m kept

-- these are the UTF-8 of eight units
pub spelled_short : (us bytes : List ℕ) → length us ≡ 8 → ((k : ℕ) → k < 8 → EncodesTo (get_or us k 0) (get_or bytes (2 * k) 0) (get_or bytes (2 * k + 1) 0))
    → map (λ j. get_or bytes j 0) (kept_places 0 (map (nat_le 0x80) us)) ≡ encode_utf8_all us
spelled_short us bytes l spells =
    kept_spell (λ j. get_or bytes j 0) us 0 (λ k i. let e : 2 * k ≡ 0 + 2 * k = omega arith in
    subst (λ j. EncodesTo (get_or us k 0) (get_or bytes j 0) (get_or bytes (j + 1) 0)) e (spells k (omega arith)))

-- ---- both bytes
-- of a code unit from 0x80 on, in one number
abbrev pub both : ℕ → ℕ
both u = ((u / 2 ^ 6 + bit_and u 0x3F * 2 ^ 8 % 2 ^ 16) % 2 ^ 16 + 0x80C0) % 2 ^ 16

both_is : (u : ℕ) → u < 0x800 → (both u % 256 ≡ 192 + u / 64) × (both u / 256 ≡ 128 + u % 64)
both_is u l = let low : bit_and u 0x3F ≡ u % 2 ^ 6 = and_mask u 6 in (omega arith, omega arith)

pub EncodesTo-word : (u : ℕ) → u < 0x800 → EncodesTo u (cond (nat_le 0x80 u) (both u) u % 256) (cond (nat_le 0x80 u) (both u) u / 256)
EncodesTo-word u l = grind (arith, nat_tests, both_is u l, two u, encode_ascii u)

-- ---- lanes
-- the mask of `simd_ge` with a splat
pub mask_from : (w : Width) (n bound : ℕ) (us : List ℕ) → length us ≡ n → n ≤ 64
    → mask_of (hbits w) (zip2 (compared w leb) (replicate n bound) us) ≡ mask_l (map (leb bound) us)
mask_from w n bound us long few =
    let tests = tops_compared w leb (replicate n bound) us ∙ zip2_splat_left leb bound n us long in
    ap (λ ms. mask_l ms % 2 ^ 64) tests ∙ mask_l-mod (map (leb bound) us) 64 (omega (arith, length-map us (leb bound)))

pub respell : (u : ℕ) {x y x2 y2 : ℕ} → x ≡ x2 → y ≡ y2 → EncodesTo u x2 y2 → EncodesTo u x y
respell u {x} {y} {x2} {y2} p q s = subst (λ k. EncodesTo u k y) (sym p) (subst (EncodesTo u x2) (sym q) s)

pick : (b : Bool) (x y : ℕ) → x < 65536 → y < 65536 → cond b x y < 65536
pick b x y l m = grind (arith, nat_tests)

-- the words of sixteen code units, as bytes
both_lanes : (us : List ℕ) → length us ≡ 16
    → HasLanes 16
    (zip2 (λ a b. (a + b) % 2 ^ 16)
    (zip2 (λ a b. (a + b) % 2 ^ 16) (zip2 (λ a b. a / 2 ^ b) us (replicate 16 6))
    (zip2 (λ a b. a * 2 ^ b % 2 ^ 16) (zip2 bit_and us (replicate 16 0x3F)) (replicate 16 8))) (replicate 16 0x80C0))
    (λ k. both (get_or us k 0))
both_lanes us long =
    let lanes = HasLanes-itself 16 us long in
    let lead = HasLanes-zip2 (λ a b. a / 2 ^ b) lanes (HasLanes-splat 16 6) in
    let last = HasLanes-zip2 (λ a b. a * 2 ^ b % 2 ^ 16) (HasLanes-zip2 bit_and lanes (HasLanes-splat 16 0x3F)) (HasLanes-splat 16 8) in
    HasLanes-zip2 (λ a b. (a + b) % 2 ^ 16) (HasLanes-zip2 (λ a b. (a + b) % 2 ^ 16) lead last) (HasLanes-splat 16 0x80C0)

-- the same by a mask of those that take two bytes
abbrev pub words_by : List ℕ → List ℕ → List ℕ
words_by two_bytes us = sel_l (map (top 15) two_bytes)
    (zip2 (λ a b. (a + b) % 2 ^ 16)
    (zip2 (λ a b. (a + b) % 2 ^ 16) (zip2 (λ a b. a / 2 ^ b) us (replicate 16 6))
    (zip2 (λ a b. a * 2 ^ b % 2 ^ 16) (zip2 bit_and us (replicate 16 0x3F)) (replicate 16 8))) (replicate 16 0x80C0)) us

abbrev pub both_words : List ℕ → List ℕ
both_words us = words_by (zip2 (compared w16 leb) (replicate 16 0x80) us) us

pub words_spell : (us : List ℕ) → length us ≡ 16 → ((i : ℕ) → i < 16 → get_or us i 0 < 0x800) → (k : ℕ) → k < 16
    → EncodesTo (get_or us k 0) (get_or (bytes_of_sixteen (both_words us)) (2 * k) 0) (get_or (bytes_of_sixteen (both_words us)) (2 * k + 1) 0)
words_spell us long small k l =
    let lanes = HasLanes-itself 16 us long in
    let words = chosen_by (tests_of w16 leb (HasLanes-splat 16 0x80) lanes) (both_lanes us long) lanes in
    let bytes =
    sixteen_lanes words (λ i m. pick (leb 0x80 (get_or us i 0)) (both (get_or us i 0)) (get_or us i 0) (omega arith) (omega (arith, small i m))) k l in
    respell (get_or us k 0) bytes.0 bytes.1 (EncodesTo-word (get_or us k 0) (small k l))

-- the UTF-8 of eight of these units, by bytes from an index on
pub spelled_eight : (us places : List ℕ) (get : ℕ → ℕ) (mask : ℕ) → length us ≡ 8 → mask ≡ mask_l (map (nat_le 0x80) us)
    → ((tests : List Bool) → length tests ≡ 8 → mask ≡ mask_l tests → take (length (kept_places 0 tests)) places ≡ kept_places 0 tests)
    → ((k : ℕ) → k < 8 → EncodesTo (get_or us k 0) (get (2 * k)) (get (2 * k + 1))) → take (8 + count_ones mask) (map get places) ≡ encode_utf8_all us
spelled_eight us places get mask long m kept spells =
    let tests = map (nat_le 0x80) us in
    let eight : length tests ≡ 8 = length-map us (nat_le 0x80) ∙ long in
    kept_of tests get places mask eight m (kept tests eight m)
    ∙ kept_spell get us 0 (λ k i. let e : 2 * k ≡ 0 + 2 * k = omega arith in
    subst (λ j. EncodesTo (get_or us k 0) (get j) (get (j + 1))) e (spells k (omega arith)))

-- ---- the test
pub all_long : (us : List ℕ) → length us ≡ 16 → Each1 (Fits w16) us
    → IsTrue
    (not (not
    (eqb (mask_of 15 (zip2 bit_or (zip2 (compared w16 eqb) (zip2 bit_and us (replicate 16 0xF800)) (replicate 16 0))
    (zip2 (compared w16 eqb) (zip2 bit_and us (replicate 16 0xF800)) (replicate 16 0xD800)))) 0)))
    → (k : ℕ) → k < 16 → (0x800 ≤ get_or us k 0) × ((0xD800 ≤ get_or us k 0) × (get_or us k 0 ≤ 0xDFFF) → ⊥)
all_long us long fit t k l =
    let x = get_or us k 0 in
    let tops = HasLanes-zip2 bit_and (HasLanes-itself 16 us long) (HasLanes-splat 16 0xF800) in
    let others = tests_or (tests_of w16 eqb tops (HasLanes-splat 16 0)) (tests_of w16 eqb tops (HasLanes-splat 16 0xD800)) in
    let none = or_parts (eqb (bit_and x 0xF800) 0) (eqb (bit_and x 0xF800) 0xD800) ((none_passes others (omega arith)).0 t k l) in
    let top_bits : bit_and x 0xF800 ≡ x / 2048 * 2048 = and_high_mask 16 11 (omega arith) x (Each1-get_or (Fits w16) us k 0 (omega arith) fit).fits in
    let low = eqb-false _ _ none.0 in
    let surrogate = eqb-false _ _ none.1 in
    (omega arith, λ r. surrogate (omega (arith, r.0, r.1)))

-- ---- the bytes
-- for n code units the indices of the first two bytes, and of the last one, which is sixteen after the first
abbrev pub three_places : ℕ → ℕ → List ℕ
three_places at zero = []
three_places at (suc n) = at ∷ (at + 1) ∷ (at + 16) ∷ three_places (at + 2) n

three_spell : (get : ℕ → ℕ) (us : List ℕ) (at : ℕ)
    → ((k : ℕ) → k < length us → (get (at + 2 * k) ∷ get (at + 2 * k + 1) ∷ get (at + 2 * k + 16) ∷ []) ≡ encode_utf8 (get_or us k 0))
    → map get (three_places at (length us)) ≡ encode_utf8_all us
three_spell get [] at h = refl
three_spell get (u ∷ us) at h =
    let first : at + 2 * 0 ≡ at = omega arith in
    let here : (get at ∷ get (at + 1) ∷ get (at + 16) ∷ []) ≡ encode_utf8 u =
    subst (λ k. (get k ∷ get (k + 1) ∷ get (k + 16) ∷ []) ≡ encode_utf8 u) first (h 0 (omega arith)) in
    let more : (k : ℕ) → k < length us → (get (at + 2 + 2 * k) ∷ get (at + 2 + 2 * k + 1) ∷ get (at + 2 + 2 * k + 16) ∷ []) ≡ encode_utf8
    (get_or us k 0) = λ k l.
    let e : at + 2 * suc k ≡ at + 2 + 2 * k = omega arith in
    subst (λ j. (get j ∷ get (j + 1) ∷ get (j + 16) ∷ []) ≡ encode_utf8 (get_or us k 0)) e (h (suc k) (omega arith)) in
    ap (λ r. get at ∷ get (at + 1) ∷ get (at + 16) ∷ r) (three_spell get us (at + 2) more) ∙ ap (λ xs. xs ++ encode_utf8_all us) here

abbrev pub two_word : ℕ → ℕ
two_word u = ((u / 2 ^ 12 + bit_and (u / 2 ^ 6) 0x3F * 2 ^ 8 % 2 ^ 16) % 2 ^ 16 + 0x80E0) % 2 ^ 16

abbrev pub last_word : ℕ → ℕ
last_word u = (bit_and u 0x3F + 0x80) % 2 ^ 16

word_bytes : (u : ℕ) → 0x800 ≤ u → u < 2 ^ 16 → (two_word u % 256 ∷ two_word u / 256 ∷ last_word u % 256 ∷ []) ≡ encode_utf8 u
word_bytes u l h =
    let low : bit_and u 0x3F ≡ u % 2 ^ 6 = and_mask u 6 in
    let mid : bit_and (u / 2 ^ 6) 0x3F ≡ u / 2 ^ 6 % 2 ^ 6 = and_mask (u / 2 ^ 6) 6 in
    grind (arith, nat_tests, low, mid, three u)

-- the words of eight code units, and their bytes
abbrev pub two_words : List ℕ → List ℕ
two_words us = zip2 (λ a b. (a + b) % 2 ^ 16) (zip2 (λ a b. (a + b) % 2 ^ 16) (zip2 (λ a b. a / 2 ^ b) us (replicate 8 12))
    (zip2 (λ a b. a * 2 ^ b % 2 ^ 16) (zip2 bit_and (zip2 (λ a b. a / 2 ^ b) us (replicate 8 6)) (replicate 8 0x3F)) (replicate 8 8))) (replicate 8 0x80E0)

abbrev pub last_words : List ℕ → List ℕ
last_words us = zip2 (λ a b. (a + b) % 2 ^ 16) (zip2 bit_and us (replicate 8 0x3F)) (replicate 8 0x80)

two_lanes : (us : List ℕ) → length us ≡ 8 → HasLanes 8 (two_words us) (λ k. two_word (get_or us k 0))
two_lanes us long =
    let lanes = HasLanes-itself 8 us long in
    let add = λ (a b : ℕ). (a + b) % 2 ^ 16 in
    let lead = HasLanes-zip2 (λ a b. a / 2 ^ b) lanes (HasLanes-splat 8 12) in
    let middle =
    HasLanes-zip2 (λ a b. a * 2 ^ b % 2 ^ 16) (HasLanes-zip2 bit_and (HasLanes-zip2 (λ a b. a / 2 ^ b) lanes (HasLanes-splat 8 6)) (HasLanes-splat 8 0x3F))
    (HasLanes-splat 8 8) in
    HasLanes-zip2 add (HasLanes-zip2 add lead middle) (HasLanes-splat 8 0x80E0)

last_lanes : (us : List ℕ) → length us ≡ 8 → HasLanes 8 (last_words us) (λ k. last_word (get_or us k 0))
last_lanes us long = HasLanes-zip2 (λ a b. (a + b) % 2 ^ 16) (HasLanes-zip2 bit_and (HasLanes-itself 8 us long) (HasLanes-splat 8 0x3F)) (HasLanes-splat 8 0x80)

triple : {x y z x2 y2 z2 : ℕ} {e : List ℕ} → x ≡ x2 → y ≡ y2 → z ≡ z2 → (x2 ∷ y2 ∷ z2 ∷ []) ≡ e → (x ∷ y ∷ z ∷ []) ≡ e
triple p q r e = (λ i. p i ∷ q i ∷ r i ∷ []) ∙ e

pub long_spelled : (us : List ℕ) → length us ≡ 8 → Each1 (Fits w16) us → ((k : ℕ) → k < 8 → 0x800 ≤ get_or us k 0)
    → pick_l 0 (bytes_of (two_words us) ++ bytes_of (last_words us)) (0 ∷ 1 ∷ 16 ∷ 2 ∷ 3 ∷ 18 ∷ 4 ∷ 5 ∷ 20 ∷ 6 ∷ 7 ∷ 22 ∷ 8 ∷ 9 ∷ 24 ∷ 10 ∷ [])
    ++ pick_l 0 (bytes_of (two_words us) ++ bytes_of (last_words us)) (11 ∷ 26 ∷ 12 ∷ 13 ∷ 28 ∷ 14 ∷ 15 ∷ 30 ∷ []) ≡ encode_utf8_all us
long_spelled us long fit high =
    let both = bytes_of (two_words us) in
    let lasts = bytes_of (last_words us) in
    let get : ℕ → ℕ = λ j. get_or (both ++ lasts) j 0 in
    let two = bytes_lanes (two_lanes us long) (λ i m. omega arith) in
    let last = bytes_lanes (last_lanes us long) (λ i m. omega arith) in
    ap (λ n. map get (three_places 0 n)) (sym long) ∙ three_spell get us 0 (λ k l.
    let in_lanes : k < 8 = omega arith in
    let start : 0 + 2 * k ≡ 2 * k = omega arith in
    let second : 0 + 2 * k + 1 ≡ 2 * k + 1 = omega arith in
    let third : 0 + 2 * k + 16 - 16 ≡ 2 * k = omega arith in
    triple (get_or_append_left both lasts 0 (0 + 2 * k) (omega arith) ∙ ap (λ j. get_or both j 0) start ∙ (two k in_lanes).0)
    (get_or_append_left both lasts 0 (0 + 2 * k + 1) (omega arith) ∙ ap (λ j. get_or both j 0) second ∙ (two k in_lanes).1)
    (get_or-append_right both lasts 16 (0 + 2 * k + 16) 0 (omega arith) (omega arith) ∙ ap (λ j. get_or lasts j 0) third ∙ (last k in_lanes).0)
    (word_bytes (get_or us k 0) (high k in_lanes) (Each1-get_or (Fits w16) us k 0 l fit).fits))

-- ---- two stores, one after the other
pub two_puts : (at n m : ℕ) (xs first second : List ℕ) → at + (n + m) ≤ length xs → length first ≡ n → length second ≡ m
    → put_chunk (at + n) (put_chunk at xs first) second ≡ take at xs ++ ((first ++ second) ++ drop (at + (n + m)) xs)
two_puts at n m xs first second room p q =
    let prefix : length (take at xs ++ first) ≡ at + n = omega (arith, length-append (take at xs) first, length-take-le at xs (omega arith)) in
    let once : put_chunk at xs first ≡ (take at xs ++ first) ++ drop (at + n) xs = put_is at n xs first p (omega arith)
    ∙ sym (append_assoc (take at xs) first (drop (at + n) xs)) in
    let place : at + n + m ≡ at + (n + m) = omega arith in
    put_is (at + n) m (put_chunk at xs first) second q (omega (arith, length-put_chunk at xs first))
    ∙ (λ i. take (at + n) (once i) ++ (second ++ drop (at + n + m) (once i)))
    ∙ (λ i. take_at (take at xs ++ first) (drop (at + n) xs) (at + n) prefix i
    ++ (second ++ (sym (drop-drop m (at + n) ((take at xs ++ first) ++ drop (at + n) xs))
    ∙ ap (drop m) (drop_at (take at xs ++ first) (drop (at + n) xs) (at + n) prefix) ∙ drop-drop m (at + n) xs ∙ ap (λ k. drop k xs) place) i))
    ∙ append_assoc (take at xs) first (second ++ drop (at + (n + m)) xs)
    ∙ ap (λ ys. take at xs ++ ys) (sym (append_assoc first second (drop (at + (n + m)) xs)))

-- sixteen units as two vectors of eight
module _ (us : List ℕ) (long : length us ≡ 16) where
  pub first_eight : pick_l 0 (us ++ us) (range_with_len 0 8) ≡ take 8 us
  first_eight = pick_l_left 0 us us 16 (range_with_len 0 8) long tt ∙ pick_l-range_with_len 0 us 0 8 (omega arith)

  pub last_eight : pick_l 0 (us ++ us) (range_with_len 8 8) ≡ drop 8 us
  last_eight = pick_l_left 0 us us 16 (range_with_len 8 8) long tt ∙ pick_l-range_with_len 0 us 8 8 (omega arith)
      ∙ take_all 8 (drop 8 us) (omega (arith, length-drop 8 us))
