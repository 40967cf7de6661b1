-- Code units below U+0800 and pairs, in lanes: each half of a pair has two bytes.
use Rattle.std.proofs.Common.{◌≡◌, ℕ, zero, suc, ◌+◌, ◌-◌, ◌*◌, ◌/◌, ◌%◌, ◌^◌, ◌<◌, ◌≤◌, ◌↔◌, ◌⊎◌, inl, inr, Bool, true}
use Rattle.std.proofs.Common.{false, not, cond, eqb, leb, ◌||◌, List, [], ◌∷◌, ◌++◌, map, length, take, drop, get_or}
use Rattle.std.proofs.Common.{bit_and, refl, sym, ap, ◌∙◌, arith, subst, append_assoc, length-append, length-take-le}
use Rattle.std.specs.Prelude.{nat_le}
use Rattle.std.proofs.lemmas.Bool.{cases_lt, leb-false, eqb-true, eq-eqb, or_parts}
use Rattle.std.proofs.lemmas.Bool.Decides.{nat_tests}
use Rattle.std.proofs.lemmas.List.{append-nil, take-append-drop, take_at, get_or-map}
use Rattle.std.proofs.lemmas.List.FromFn.{get_or-range_with_len}
use Rattle.std.proofs.lemmas.Nat.{and_mask}
use Rattle.std.proofs.lemmas.Nat.Bits.{and_high_mask}
use Rattle.std.proofs.lemmas.Simd.{get_or-chunk, length-chunk, pick_l_left}
use Rattle.std.specs.List.{range_with_len}
use Rattle.std.specs.Simd.Lanes.{chunk, pick_l}
use Rattle.encoding_definitions.specs.Utf16.{IsHighSurrogate, IsLowSurrogate}
use Rattle.encoding_kernels.specs.Scans.{HasLanes}
use Rattle.encoding_kernels.specs.KeptBytes.{kept_places}
use Rattle.encoding_kernels.specs.SurrogatePairs.{IsTwoByteOrHalf, AreTwoByteOrPaired, EncodesHalf, half_bytes, concatenated, halves_from}
use Rattle.encoding_kernels.proofs.VectorLemmas.{bytes_of, bytes_lanes}
use Rattle.encoding_kernels.proofs.UniformLemmas.{both, EncodesTo-word, kept_step}

-- ---- concatenation
pub concatenated-same : (f g : ℕ → List ℕ) (i j n : ℕ) → ((k : ℕ) → k < n → f (i + k) ≡ g (j + k)) → concatenated f i n ≡ concatenated g j n
unfolding concatenated
concatenated-same f g i j zero h = refl
concatenated-same f g i j (suc n) h =
    let first : i + 0 ≡ i = omega arith in
    let other : j + 0 ≡ j = omega arith in
    let here : f i ≡ g j = ap f (sym first) ∙ h 0 (omega arith) ∙ ap g other in
    let more : (k : ℕ) → k < n → f (i + 1 + k) ≡ g (j + 1 + k) = λ k l.
    let from : i + 1 + k ≡ i + suc k = omega arith in
    let to : j + suc k ≡ j + 1 + k = omega arith in
    ap f from ∙ h (suc k) (omega arith) ∙ ap g to in
    (λ x. here x ++ concatenated-same f g (i + 1) (j + 1) n more x)

pub concatenated-append : (f : ℕ → List ℕ) (i n m : ℕ) → concatenated f i (n + m) ≡ concatenated f i n ++ concatenated f (i + n) m
unfolding concatenated
concatenated-append f i zero m =
    let none : 0 + m ≡ m = omega arith in
    let start : i ≡ i + 0 = omega arith in
    ap (concatenated f i) none ∙ ap (λ j. concatenated f j m) start
concatenated-append f i (suc n) m =
    let count : suc n + m ≡ suc (n + m) = omega arith in
    let place : i + 1 + n ≡ i + suc n = omega arith in
    ap (concatenated f i) count ∙ ap (λ xs. f i ++ xs) (concatenated-append f (i + 1) n m ∙ ap (λ j. concatenated f (i + 1) n ++ concatenated f j m) place)
    ∙ sym (append_assoc (f i) (concatenated f (i + 1) n) (concatenated f (i + suc n) m))

joined_one : (f : ℕ → List ℕ) (i : ℕ) → concatenated f i 1 ≡ f i
unfolding concatenated
joined_one f i = append-nil (f i)

-- without the two bytes of the last
pub joined_before_last : (f : ℕ → List ℕ) (i n count : ℕ) (bytes : List ℕ) → take count bytes ≡ concatenated f i (n + 1) → count ≤ length bytes
    → length (f (i + n)) ≡ 2
    → take (count - 2) bytes ≡ concatenated f i n
joined_before_last f i n count bytes e fits two =
    let prefix = concatenated f i n in
    let whole : take count bytes ≡ prefix ++ f (i + n) = e ∙ concatenated-append f i n 1 ∙ ap (λ xs. prefix ++ xs) (joined_one f (i + n)) in
    let long : length prefix ≡ count - 2 = omega (arith, ap length whole, length-append prefix (f (i + n)), two, length-take-le count bytes fits) in
    ap (take (count - 2)) (sym (take-append-drop count bytes) ∙ ap (λ xs. xs ++ drop count bytes) whole ∙ append_assoc prefix (f (i + n)) (drop count bytes))
    ∙ take_at prefix (f (i + n) ++ drop count bytes) (count - 2) long

-- ---- the bytes at the kept indices
pub kept_join : (get : ℕ → ℕ) (f : ℕ → List ℕ) (us : List ℕ) (at i : ℕ)
    → ((k : ℕ) → k < length us → cond (nat_le 0x80 (get_or us k 0)) (get (at + 2 * k) ∷ get (at + 2 * k + 1) ∷ []) (get (at + 2 * k) ∷ []) ≡ f (i + k))
    → map get (kept_places at (map (nat_le 0x80) us)) ≡ concatenated f i (length us)
unfolding concatenated
kept_join get f [] at i h = refl
kept_join get f (u ∷ us) at i h =
    let first : at + 2 * 0 ≡ at = omega arith in
    let start : i + 0 ≡ i = omega arith in
    let here : cond (nat_le 0x80 u) (get at ∷ get (at + 1) ∷ []) (get at ∷ []) ≡ f i =
    subst (λ k. cond (nat_le 0x80 u) (get k ∷ get (k + 1) ∷ []) (get k ∷ []) ≡ f i) first (h 0 (omega arith) ∙ ap f start) in
    let more : (k : ℕ) → k < length us
    → cond (nat_le 0x80 (get_or us k 0)) (get (at + 2 + 2 * k) ∷ get (at + 2 + 2 * k + 1) ∷ []) (get (at + 2 + 2 * k) ∷ []) ≡ f (i + 1 + k) = λ k l.
    let e : at + 2 * suc k ≡ at + 2 + 2 * k = omega arith in
    let place : i + suc k ≡ i + 1 + k = omega arith in
    subst (λ j. cond (nat_le 0x80 (get_or us k 0)) (get j ∷ get (j + 1) ∷ []) (get j ∷ []) ≡ f (i + 1 + k)) e (h (suc k) (omega arith) ∙ ap f place) in
    kept_step get at (nat_le 0x80 u) _ _ _ here (kept_join get f us (at + 2) (i + 1) more)

pub spelled_halves : (us ps bytes : List ℕ) → length us ≡ 8
    → ((k : ℕ) → k < 8 → EncodesHalf (get_or ps k 0) (get_or us k 0) (get_or bytes (2 * k) 0) (get_or bytes (2 * k + 1) 0))
    → map (λ j. get_or bytes j 0) (kept_places 0 (map (nat_le 0x80) us)) ≡ concatenated (λ k. half_bytes (get_or ps k 0) (get_or us k 0)) 0 8
spelled_halves us ps bytes l spells =
    let f : ℕ → List ℕ = λ k. half_bytes (get_or ps k 0) (get_or us k 0) in
    kept_join (λ j. get_or bytes j 0) f us 0 0 (λ k i.
    let e : 2 * k ≡ 0 + 2 * k = omega arith in
    let place : k ≡ 0 + k = omega arith in
    subst (λ j. cond (nat_le 0x80 (get_or us k 0)) (get_or bytes j 0 ∷ get_or bytes (j + 1) 0 ∷ []) (get_or bytes j 0 ∷ []) ≡ f (0 + k)) e
    (spells k (omega arith) ∙ ap f place))
    ∙ ap (concatenated f 0) l

-- ---- both bytes of a half, in one number
abbrev pub high_word : ℕ → ℕ
high_word u = (((u + 0x40) % 2 ^ 16 / 2 ^ 8 + bit_and ((u + 0x40) % 2 ^ 16 / 2 ^ 2) 0x3F * 2 ^ 8 % 2 ^ 16) % 2 ^ 16 + 0x8018) % 2 ^ 16

abbrev pub low_word : ℕ → ℕ → ℕ
low_word p u = (((bit_and p 3 * 2 ^ 4 % 2 ^ 16 + bit_and (u / 2 ^ 6) 0xF) % 2 ^ 16 + bit_and u 0x3F * 2 ^ 8 % 2 ^ 16) % 2 ^ 16 + 0x8080) % 2 ^ 16

abbrev pub half_word : ℕ → ℕ → ℕ
half_word p u = cond (nat_le 0x80 u) (cond (nat_le 0x800 u) (cond (nat_le 0xDC00 u) (low_word p u) (high_word u)) (both u)) u

high_is : (u : ℕ) → 0xD800 ≤ u → u < 0xDC00 → (high_word u % 256 ≡ (u + 64) / 256 + 24) × (high_word u / 256 ≡ (u + 64) / 4 % 64 + 128)
high_is u l h =
    let second : bit_and ((u + 0x40) % 2 ^ 16 / 2 ^ 2) 0x3F ≡ (u + 0x40) % 2 ^ 16 / 2 ^ 2 % 2 ^ 6 = and_mask ((u + 0x40) % 2 ^ 16 / 2 ^ 2) 6 in
    (omega arith, omega arith)

low_is : (p u : ℕ) → (low_word p u % 256 ≡ 128 + p % 4 * 16 + u / 64 % 16) × (low_word p u / 256 ≡ 128 + u % 64)
low_is p u =
    let before : bit_and p 3 ≡ p % 2 ^ 2 = and_mask p 2 in
    let third : bit_and (u / 2 ^ 6) 0xF ≡ u / 2 ^ 6 % 2 ^ 4 = and_mask (u / 2 ^ 6) 4 in
    let last : bit_and u 0x3F ≡ u % 2 ^ 6 = and_mask u 6 in
    (omega arith, omega arith)

pub EncodesTo-half : (p u : ℕ) → IsTwoByteOrHalf u → EncodesHalf p u (half_word p u % 256) (half_word p u / 256)
EncodesTo-half p u (inl l) = grind (arith, nat_tests, EncodesTo-word u l)
EncodesTo-half p u (inr (l, h)) = let low = low_is p u in grind (arith, nat_tests, high_is u l, low)

half_small : (p u : ℕ) → IsTwoByteOrHalf u → half_word p u < 65536
half_small p u h =
    let small : u < 65536 = elim h [ inl l ↦ omega arith | inr r ↦ omega (arith, r.1) ] in
    grind (arith, nat_tests)

pub halves_spell : (us ps words : List ℕ) (k : ℕ) → HasLanes 8 words (λ i. half_word (get_or ps i 0) (get_or us i 0))
    → ((i : ℕ) → i < 8 → IsTwoByteOrHalf (get_or us i 0)) → k < 8
    → EncodesHalf (get_or ps k 0) (get_or us k 0) (get_or (bytes_of words) (2 * k) 0) (get_or (bytes_of words) (2 * k + 1) 0)
halves_spell us ps words k lanes each l =
    let p = get_or ps k 0 in
    let u = get_or us k 0 in
    let bytes = bytes_lanes lanes (λ i m. half_small (get_or ps i 0) (get_or us i 0) (each i m)) k l in
    subst (λ x. EncodesHalf p u x (get_or (bytes_of words) (2 * k + 1) 0)) (sym bytes.0)
    (subst (λ y. EncodesHalf p u (half_word p u % 256) y) (sym bytes.1) (EncodesTo-half p u (each k l)))

-- ---- two vectors of eight
half_before : (p q u : ℕ) → IsTwoByteOrHalf u → (IsLowSurrogate u → ⊥) → half_bytes p u ≡ half_bytes q u
half_before p q u h n =
    let first : u < 0xDC00 = elim (cases_lt u 0xDC00) [ inl l ↦ l | inr l ↦ elim h [ inl m ↦ omega arith | inr m ↦ absurd (n (l, m.1)) ] ] in
    grind (arith, nat_tests)

half_long : (p u : ℕ) → IsHighSurrogate u → length (half_bytes p u) ≡ 2
half_long p u h = grind (arith, nat_tests)

-- the lanes, each moved by one
abbrev pub moved : List ℕ → List ℕ
moved xs = pick_l 0 (xs ++ xs) (0 ∷ 0 ∷ 1 ∷ 2 ∷ 3 ∷ 4 ∷ 5 ∷ 6 ∷ [])

moved_lane : (xs : List ℕ) (j : ℕ) → length xs ≡ 8 → j < 7 → get_or (moved xs) (suc j) 0 ≡ get_or xs j 0
moved_lane xs j long l =
    let place : 0 + j ≡ j = omega arith in
    ap (λ ys. get_or ys (suc j) 0) (pick_l_left 0 xs xs 8 (0 ∷ 0 ∷ 1 ∷ 2 ∷ 3 ∷ 4 ∷ 5 ∷ 6 ∷ []) long tt)
    ∙ get_or-map (λ k. get_or xs k 0) (range_with_len 0 7) j 0 0 l ∙ ap (λ k. get_or xs k 0) (get_or-range_with_len 0 7 j 0 l ∙ place)

module _ (us : List ℕ) (at : ℕ) (room : at + 16 ≤ length us) (p : AreTwoByteOrPaired us at 16) where
  abbrev half_at : ℕ → List ℕ
  half_at k = half_bytes (get_or us (k - 1) 0) (get_or us k 0)

  abbrev pub first_half : ℕ → List ℕ
  first_half k = half_bytes (get_or (moved (chunk at 8 us)) k 0) (get_or (chunk at 8 us) k 0)

  abbrev pub second_half : ℕ → List ℕ
  second_half k = half_bytes (get_or (chunk (at + 7) 8 us) k 0) (get_or (chunk (at + 8) 8 us) k 0)

  first_lane : (k : ℕ) → k < 8 → first_half k ≡ half_at (at + k)
  first_lane zero l =
      let start : at + 0 ≡ at = omega arith in
      let here : get_or (chunk at 8 us) 0 0 ≡ get_or us at 0 = get_or-chunk at 8 us 0 0 (omega arith) ∙ ap (λ j. get_or us j 0) start in
      ap (half_bytes (get_or (moved (chunk at 8 us)) 0 0)) here
      ∙ half_before _ (get_or us (at + 0 - 1) 0) (get_or us at 0) (p.each at (omega arith) (omega arith)) (p.whole (omega arith))
      ∙ ap (λ j. half_bytes (get_or us (at + 0 - 1) 0) (get_or us j 0)) (sym start)
  first_lane (suc j) l =
      let place : at + j ≡ at + suc j - 1 = omega arith in
      let before : get_or (moved (chunk at 8 us)) (suc j) 0 ≡ get_or us (at + suc j - 1) 0 =
      moved_lane (chunk at 8 us) j (length-chunk at 8 us (omega arith)) (omega arith) ∙ get_or-chunk at 8 us j 0 (omega arith)
      ∙ ap (λ i. get_or us i 0) place in
      let here : get_or (chunk at 8 us) (suc j) 0 ≡ get_or us (at + suc j) 0 = get_or-chunk at 8 us (suc j) 0 l in
      (λ i. half_bytes (before i) (here i))

  second_lane : (k : ℕ) → k < 8 → second_half k ≡ half_at (at + 8 + k)
  second_lane k l =
      let place : at + 7 + k ≡ at + 8 + k - 1 = omega arith in
      let before : get_or (chunk (at + 7) 8 us) k 0 ≡ get_or us (at + 8 + k - 1) 0 = get_or-chunk (at + 7) 8 us k 0 l ∙ ap (λ i. get_or us i 0) place in
      let here : get_or (chunk (at + 8) 8 us) k 0 ≡ get_or us (at + 8 + k) 0 = get_or-chunk (at + 8) 8 us k 0 l in
      (λ i. half_bytes (before i) (here i))

  first_joined : concatenated first_half 0 8 ≡ halves_from us at 8
  first_joined = concatenated-same first_half half_at 0 at 8 (λ k l. let e : 0 + k ≡ k = omega arith in ap first_half e ∙ first_lane k l)

  second_joined : (n : ℕ) → n ≤ 8 → concatenated second_half 0 n ≡ halves_from us (at + 8) n
  second_joined n few = concatenated-same second_half half_at 0 (at + 8) n (λ k l. let e : 0 + k ≡ k = omega arith in ap second_half e
      ∙ second_lane k (omega arith))

  joined_halves : (n : ℕ) (first second : List ℕ) → n ≤ 8 → first ≡ concatenated first_half 0 8 → second ≡ concatenated second_half 0 n
      → first ++ second ≡ halves_from us at (8 + n)
  joined_halves n first second few e f = (λ i. (e ∙ first_joined) i ++ (f ∙ second_joined n few) i) ∙ sym (concatenated-append half_at at 8 n)

  pub both_halves : (cut count more : ℕ) (bytes other : List ℕ)
      → ((cut ≡ 1) × IsHighSurrogate (get_or us (at + 15) 0)) ⊎ ((cut ≡ 0) × (IsHighSurrogate (get_or us (at + 15) 0) → ⊥))
      → take count bytes ≡ concatenated first_half 0 8 → take more other ≡ concatenated second_half 0 8 → more ≤ length other
      → take count bytes ++ take (more - 2 * cut) other ≡ halves_from us at (16 - cut)
  both_halves cut count more bytes other (inl (e, h)) first second fits =
      let less : more - 2 * cut ≡ more - 2 = omega arith in
      let units : 8 + 7 ≡ 16 - cut = omega arith in
      let place : at + 8 + 7 ≡ at + 15 = omega arith in
      let last : get_or (chunk (at + 8) 8 us) 7 0 ≡ get_or us (at + 15) 0 = get_or-chunk (at + 8) 8 us 7 0 (omega arith) ∙ ap (λ i. get_or us i 0) place in
      let two : length (second_half (0 + 7)) ≡ 2 = half_long _ _ (subst IsHighSurrogate (sym last) h) in
      joined_halves 7 (take count bytes) (take (more - 2 * cut) other) (omega arith) first (ap (λ n. take n other) less
      ∙ joined_before_last second_half 0 7 more other second fits two)
      ∙ ap (halves_from us at) units
  both_halves cut count more bytes other (inr (e, h)) first second fits =
      let same : more - 2 * cut ≡ more = omega arith in
      let units : 8 + 8 ≡ 16 - cut = omega arith in
      joined_halves 8 (take count bytes) (take (more - 2 * cut) other) (omega arith) first (ap (λ n. take n other) same ∙ second) ∙ ap (halves_from us at) units

-- ---- the test
pub same_tests : (a b : Bool) → cond a (not b) b ≡ false → a ≡ b
same_tests a b e = grind (arith, nat_tests)

pub low_test : (x : ℕ) → x < 2 ^ 16 → (eqb (bit_and x 0xFC00) 0xDC00 ≡ true) ↔ IsLowSurrogate x
low_test x l =
    let e : bit_and x 0xFC00 ≡ x / 1024 * 1024 = and_high_mask 16 10 (omega arith) x l in
    (λ h. let q = eqb-true _ _ h in (omega arith, omega arith), λ r. eq-eqb _ _ (omega (arith, e, r.0, r.1)))

pub high_test : (x : ℕ) → x < 2 ^ 16 → (eqb (bit_and x 0xFC00) 0xD800 ≡ true) ↔ IsHighSurrogate x
high_test x l =
    let e : bit_and x 0xFC00 ≡ x / 1024 * 1024 = and_high_mask 16 10 (omega arith) x l in
    (λ h. let q = eqb-true _ _ h in (omega arith, omega arith), λ r. eq-eqb _ _ (omega (arith, e, r.0, r.1)))

half_test : (x : ℕ) → x < 2 ^ 16 → (eqb (bit_and x 0xF800) 0xD800 ≡ true) → (0xD800 ≤ x) × (x ≤ 0xDFFF)
half_test x l h =
    let e : bit_and x 0xF800 ≡ x / 2048 * 2048 = and_high_mask 16 11 (omega arith) x l in
    let q = eqb-true _ _ h in
    (omega arith, omega arith)

two_byte_or_half : (x : ℕ) → x < 2 ^ 16 → (b : Bool) → leb 0x800 x ≡ b → eqb (bit_and x 0xF800) 0xD800 ≡ b → IsTwoByteOrHalf x
two_byte_or_half x l true e f = inr (half_test x l f)
two_byte_or_half x l false e f = inl (leb-false _ _ e)

abbrev pub half_fault : ℕ → ℕ → Bool
half_fault x y = cond (eqb (bit_and x 0xFC00) 0xD800) (not (eqb (bit_and y 0xFC00) 0xDC00)) (eqb (bit_and y 0xFC00) 0xDC00)
    || cond (leb 0x800 x) (not (eqb (bit_and x 0xF800) 0xD800)) (eqb (bit_and x 0xF800) 0xD800)

pub halves_lanes : (us : List ℕ) (at : ℕ) → ((k : ℕ) → get_or us k 0 < 2 ^ 16) → (IsLowSurrogate (get_or us at 0) → ⊥)
    → ((k : ℕ) → k < 16 → half_fault (get_or us (at + k) 0) (get_or us (at + 1 + k) 0) ≡ false) → AreTwoByteOrPaired us at 16
halves_lanes us at fit whole none = record {
  each = λ k from to.
      let x = get_or us k 0 in
      let same = same_tests (leb 0x800 x) (eqb (bit_and x 0xF800) 0xD800) (or_parts _ _ (clean k from to)).1 in
      two_byte_or_half x (fit k) (eqb (bit_and x 0xF800) 0xD800) same refl;
  whole = λ l. whole;
  paired = λ k from to.
      let same = same_tests _ _ (or_parts _ _ (clean k from (omega arith))).0 in
      let high = high_test (get_or us k 0) (fit k) in
      let low = low_test (get_or us (k + 1) 0) (fit (k + 1)) in
      (λ h. low.0 (sym same ∙ high.1 h), λ h. high.0 (same ∙ low.1 h));
}
  where
    clean : (k : ℕ) → at ≤ k → k < at + 16 → half_fault (get_or us k 0) (get_or us (k + 1) 0) ≡ false
    clean k from to =
        let here : at + (k - at) ≡ k = omega arith in
        let next : at + 1 + (k - at) ≡ k + 1 = omega arith in
        subst (λ j. half_fault (get_or us j 0) (get_or us (k + 1) 0) ≡ false) here
        (subst (λ j. half_fault (get_or us (at + (k - at)) 0) (get_or us j 0) ≡ false) next (none (k - at) (omega arith)))
