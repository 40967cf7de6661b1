-- The parts of UTF-16 code units: each list of units has exactly one list of them, found from the left.
use Rattle.std.proofs.Common.{◌≡◌, ℕ, zero, suc, ◌+◌, ◌-◌, ◌*◌, ◌/◌, ◌%◌, ◌<◌, ◌≤◌, ◌⊎◌, inl, inr, true, false, cond, ◌&&◌}
use Rattle.std.proofs.Common.{List, [], ◌∷◌, ◌++◌, length, take, drop, get_or, encode_utf8, refl, sym, ap, ◌∙◌, arith, subst}
use Rattle.std.specs.Prelude.{nat_le, nat_lt}
use Rattle.std.specs.Char.{IsScalar}
use Rattle.std.specs.Char.Escape.{encode_utf16}
use Rattle.std.specs.Char.Utf16.{surrogate_pair_char, is_high_surrogate, is_low_surrogate}
use Rattle.std.specs.List.{flat_map}
use Rattle.std.proofs.lemmas.Bool.{cases_lt}
use Rattle.std.proofs.lemmas.Bool.Decides.{nat_tests}
use Rattle.std.proofs.lemmas.List.{length-append, drop_at, take-append-drop}
use Rattle.std.proofs.lemmas.List.Concat.{flat_map-append}
use Rattle.std.specs.Char.{len_utf8}
use Rattle.std.proofs.lemmas.Str.{length-encode, len_utf8_bounds}
use Rattle.std.proofs.str.Utf16.{one_unit, two_units, pair_units, IsPair}
use lib.Utf8.{low_scalar, scalar_cases}
use Rattle.encoding_definitions.proofs.EncodingLemmas.{high_scalar}
use Rattle.encoding_definitions.specs.Utf16.{AreCodeUnits, IsHighSurrogate, IsLowSurrogate, Part16, Character16, Unpaired}
use Rattle.encoding_definitions.specs.Utf16.{units_of_part16, utf8_of_part16, IsPart16, ArePaired, ArePartsOf16}
use Rattle.encoding_definitions.specs.FirstScalar.{BeginsLow, IsFirstPart16}

-- ---- the parts, from the left
-- the part of a unit that is in no pair
abbrev pub single : ℕ → Part16
single u = cond (nat_le 0xD800 u && nat_lt u 0xE000) (Unpaired u) (Character16 u)

-- the parts of units
unfoldable pub parts_of : List ℕ → List Part16
parts_of [] = []
parts_of (u ∷ []) = single u ∷ []
parts_of (u ∷ v ∷ us) = cond (is_high_surrogate u && is_low_surrogate v) (Character16 (surrogate_pair_char u v) ∷ parts_of us) (single u ∷ parts_of (v ∷ us))

pub parts_of-nil : parts_of [] ≡ []
unfolding parts_of
parts_of-nil = refl

no_pair : (u v : ℕ) → (IsPair u v → ⊥) → (is_high_surrogate u && is_low_surrogate v) ≡ false
no_pair u v apart = grind (arith, nat_tests)

parts_of_single : (u : ℕ) (us : List ℕ) → (IsPair u (get_or us 0 0) → ⊥) → parts_of (u ∷ us) ≡ single u ∷ parts_of us
unfolding parts_of
parts_of_single u [] apart = refl
parts_of_single u (v ∷ us) apart = ap (λ t. cond t (Character16 (surrogate_pair_char u v) ∷ parts_of us) (single u ∷ parts_of (v ∷ us))) (no_pair u v apart)

is_pair : (u v : ℕ) → IsPair u v → (is_high_surrogate u && is_low_surrogate v) ≡ true
is_pair u v p = grind (arith, nat_tests)

parts_of_pair : (u v : ℕ) (us : List ℕ) → IsPair u v → parts_of (u ∷ v ∷ us) ≡ Character16 (surrogate_pair_char u v) ∷ parts_of us
unfolding parts_of
parts_of_pair u v us p = ap (λ t. cond t (Character16 (surrogate_pair_char u v) ∷ parts_of us) (single u ∷ parts_of (v ∷ us))) (is_pair u v p)

single_character : (u : ℕ) → IsScalar u → single u ≡ Character16 u
single_character u s = elim (scalar_cases u s) [
  | inl l ↦ grind (arith, nat_tests)
  | inr r ↦ grind (arith, nat_tests)
]

single_unpaired : (u : ℕ) → 0xD800 ≤ u → u ≤ 0xDFFF → single u ≡ Unpaired u
single_unpaired u l h = grind (arith, nat_tests)

-- ---- a character's units
pub halves : (c : ℕ) → 0x10000 ≤ c → IsScalar c → (u : ℕ) × (v : ℕ) × IsPair u v × (encode_utf16 c ≡ u ∷ v ∷ []) × (surrogate_pair_char u v ≡ c)
halves c l s =
    let below : c < 1114112 = elim (scalar_cases c s) [ inl h ↦ omega arith | inr h ↦ h.1 ] in
    (0xD800 + (c - 0x10000) / 0x400, 0xDC00 + (c - 0x10000) % 0x400, (omega arith, omega arith, omega arith, omega arith), two_units c l, omega arith)

no_pair_from : (u : ℕ) (rest : List ℕ) → (IsHighSurrogate u → BeginsLow rest → ⊥) → IsPair u (get_or rest 0 0) → ⊥
no_pair_from u [] n p = omega (arith, p.2)
no_pair_from u (v ∷ vs) n p = n (p.0, omega arith) (p.2, omega arith)

-- the parts of units with this first part are it and the parts of the rest
pub parts_of-first : (us : List ℕ) (p : Part16) (rest : List ℕ) → IsFirstPart16 us p rest → parts_of us ≡ p ∷ parts_of rest
parts_of-first us (Character16 c) rest (s, e) = elim (cases_lt c 0x10000) [
  | inl l ↦ ap parts_of (e ∙ ap (λ xs. xs ++ rest) (one_unit c l)) ∙ parts_of_single c rest (not_high c s) ∙ ap (λ p. p ∷ parts_of rest) (single_character c s)
  | inr l ↦ let two = halves c l s in
      ap parts_of (e ∙ ap (λ xs. xs ++ rest) two.3) ∙ parts_of_pair two.0 two.1 rest two.2 ∙ ap (λ d. Character16 d ∷ parts_of rest) two.4
]
  where
    not_high : (c : ℕ) → IsScalar c → IsPair c (get_or rest 0 0) → ⊥
    not_high c s p = elim (scalar_cases c s) [ inl h ↦ omega arith | inr h ↦ omega arith ]
parts_of-first us (Unpaired u) rest (s, e, n) =
    ap parts_of e ∙ parts_of_single u rest (no_pair_from u rest n)
    ∙ ap (λ p. p ∷ parts_of rest) (elim s [ inl h ↦ single_unpaired u h.0 (omega arith) | inr h ↦ single_unpaired u (omega arith) h.1 ])

-- ---- adding and removing the first part
pub ArePartsOf16-cons : (us : List ℕ) (p : Part16) (rest : List ℕ) (ps : List Part16) → IsFirstPart16 us p rest → ArePartsOf16 rest ps
    → ArePartsOf16 us (p ∷ ps)
ArePartsOf16-cons us (Character16 c) rest [] (s, e) (a, f) = (s, ap (λ xs. encode_utf16 c ++ xs) f ∙ sym e)
ArePartsOf16-cons us (Character16 c) rest (q ∷ ps) (s, e) (a, f) = ((s, tt, a), ap (λ xs. encode_utf16 c ++ xs) f ∙ sym e)
ArePartsOf16-cons us (Unpaired u) rest [] (s, e, n) (a, f) = (s, ap (λ xs. u ∷ xs) f ∙ sym e)
ArePartsOf16-cons us (Unpaired u) rest (Character16 c ∷ ps) (s, e, n) (a, f) = ((s, tt, a), ap (λ xs. u ∷ xs) f ∙ sym e)
ArePartsOf16-cons us (Unpaired u) rest (Unpaired v ∷ ps) (s, e, n) (a, f) = ((s, (λ h l. n h (subst BeginsLow f l)), a), ap (λ xs. u ∷ xs) f ∙ sym e)

pub tail_paired : (p : Part16) (ps : List Part16) → ArePaired (p ∷ ps) → ArePaired ps
tail_paired p [] a = tt
tail_paired p (q ∷ ps) a = a.2

pub head_part : (p : Part16) (ps : List Part16) → ArePaired (p ∷ ps) → IsPart16 p
head_part p [] a = a
head_part p (q ∷ ps) a = a.0

-- the UTF-16 of a character doesn't start with a low surrogate
character_not_low : (c : ℕ) (rest : List ℕ) → IsScalar c → BeginsLow (encode_utf16 c ++ rest) → ⊥
character_not_low c rest s b = elim (cases_lt c 0x10000) [
  | inl l ↦ let low : IsLowSurrogate c = subst (λ xs. BeginsLow (xs ++ rest)) (one_unit c l) b in
      elim (scalar_cases c s) [ inl h ↦ omega arith | inr h ↦ omega arith ]
  | inr l ↦ let two = halves c l s in
      let low : IsLowSurrogate two.0 = subst (λ xs. BeginsLow (xs ++ rest)) two.3 b in omega (arith, two.2)
]

unpaired_apart : (u : ℕ) (ps : List Part16) → ArePaired (Unpaired u ∷ ps) → IsHighSurrogate u → BeginsLow (flat_map units_of_part16 ps) → ⊥
unpaired_apart u [] a h b = b
unpaired_apart u (Character16 c ∷ ps) a h b = character_not_low c (flat_map units_of_part16 ps) (head_part (Character16 c) ps a.2) b
unpaired_apart u (Unpaired v ∷ ps) a h b = a.1 h b

pub first_of_parts : (p : Part16) (ps : List Part16) → ArePaired (p ∷ ps) → IsFirstPart16 (flat_map units_of_part16 (p ∷ ps)) p (flat_map units_of_part16 ps)
first_of_parts (Character16 c) ps a = (head_part (Character16 c) ps a, refl)
first_of_parts (Unpaired u) ps a = (head_part (Unpaired u) ps a, refl, unpaired_apart u ps a)

-- ---- there is only one list of parts
paired_parts_of : (ps : List Part16) → ArePaired ps → ps ≡ parts_of (flat_map units_of_part16 ps)
paired_parts_of [] a = sym parts_of-nil
paired_parts_of (p ∷ ps) a =
    ap (λ qs. p ∷ qs) (paired_parts_of ps (tail_paired p ps a)) ∙ sym (parts_of-first _ p (flat_map units_of_part16 ps) (first_of_parts p ps a))

pub parts_are : (us : List ℕ) (ps : List Part16) → ArePartsOf16 us ps → ps ≡ parts_of us
parts_are us ps (a, e) = paired_parts_of ps a ∙ ap parts_of e

pub parts_unique : (us : List ℕ) (ps qs : List Part16) → ArePartsOf16 us ps → ArePartsOf16 us qs → ps ≡ qs
parts_unique us ps qs a b = parts_are us ps a ∙ sym (parts_are us qs b)

-- ---- there is one
pub AreCodeUnits-tail : (u : ℕ) (us : List ℕ) → AreCodeUnits (u ∷ us) → AreCodeUnits us
AreCodeUnits-tail u us a k = a (suc k)

scalar_of_pair : (u v : ℕ) → IsPair u v → IsScalar (surrogate_pair_char u v)
scalar_of_pair u v p = high_scalar (surrogate_pair_char u v) (omega arith) (omega arith)

-- the first part of units whose first two are a pair
pub first_pair : (u v : ℕ) (rest : List ℕ) → IsPair u v → IsFirstPart16 (u ∷ v ∷ rest) (Character16 (surrogate_pair_char u v)) rest
first_pair u v rest p =
    let same : surrogate_pair_char u v ≡ 0x10000 + ((u - 0xD800) * 0x400 + (v - 0xDC00)) = omega arith in
    (scalar_of_pair u v p, ap (λ xs. xs ++ rest) (sym (ap encode_utf16 same ∙ pair_units u v p.0 p.2 p.3)))

-- the first part of units whose first is no surrogate
pub first_unit : (u : ℕ) (rest : List ℕ) → u < 0x10000 → (u < 0xD800) ⊎ (0xDFFF < u) → IsFirstPart16 (u ∷ rest) (Character16 u) rest
first_unit u rest l (inl h) = (low_scalar u h, ap (λ xs. xs ++ rest) (sym (one_unit u l)))
first_unit u rest l (inr h) = (high_scalar u (omega arith) (omega arith), ap (λ xs. xs ++ rest) (sym (one_unit u l)))

-- the first part of units whose first is an unpaired surrogate
pub first_single : (u : ℕ) (rest : List ℕ) → 0xD800 ≤ u → u ≤ 0xDFFF → (IsPair u (get_or rest 0 0) → ⊥) → IsFirstPart16 (u ∷ rest) (Unpaired u) rest
first_single u rest l h n = (elim (cases_lt u 0xDC00) [ inl x ↦ inl (l, omega arith) | inr x ↦ inr (x, h) ], refl, apart u rest n)
  where
    apart : (u : ℕ) (rest : List ℕ) → (IsPair u (get_or rest 0 0) → ⊥) → IsHighSurrogate u → BeginsLow rest → ⊥
    apart u [] n h b = b
    apart u (v ∷ vs) n h b = n (h.0, omega arith, b.0, omega arith)

abbrev HasParts : List ℕ → Type 0
HasParts us = ArePartsOf16 us (parts_of us)

more_parts : (us : List ℕ) (p : Part16) (rest : List ℕ) → IsFirstPart16 us p rest → HasParts rest → HasParts us
more_parts us p rest f h = subst (ArePartsOf16 us) (sym (parts_of-first us p rest f)) (ArePartsOf16-cons us p rest (parts_of rest) f h)

one_more : (u : ℕ) (us : List ℕ) → u < 0x10000 → (IsPair u (get_or us 0 0) → ⊥) → HasParts us → HasParts (u ∷ us)
one_more u us l n h = elim (cases_lt u 0xD800) [
  | inl a ↦ more_parts (u ∷ us) (Character16 u) us (first_unit u us l (inl a)) h
  | inr a ↦ elim (cases_lt 0xDFFF u) [
    | inl b ↦ more_parts (u ∷ us) (Character16 u) us (first_unit u us l (inr b)) h
    | inr b ↦ more_parts (u ∷ us) (Unpaired u) us (first_single u us a b n) h
  ]
]

decide_pair : (u v : ℕ) → IsPair u v ⊎ (IsPair u v → ⊥)
decide_pair u v = elim (cases_lt u 0xD800) [
  | inl a ↦ inr (λ p. omega arith)
  | inr a ↦ elim (cases_lt u 0xDC00) [
    | inr b ↦ inr (λ p. omega arith)
    | inl b ↦ elim (cases_lt v 0xDC00) [
      | inl c ↦ inr (λ p. omega arith)
      | inr c ↦ elim (cases_lt v 0xE000) [
        | inl d ↦ inl (a, b, c, d)
        | inr d ↦ inr (λ p. omega arith)
      ]
    ]
  ]
]

pub parts_exist : (us : List ℕ) → AreCodeUnits us → ArePartsOf16 us (parts_of us)
parts_exist [] a = (subst ArePaired (sym parts_of-nil) tt, ap (flat_map units_of_part16) parts_of-nil)
parts_exist (u ∷ []) a = one_more u [] (a 0) (λ p. omega (arith, p.2)) (parts_exist [] (AreCodeUnits-tail u [] a))
parts_exist (u ∷ v ∷ us) a = elim (decide_pair u v) [
  | inl p ↦
      more_parts (u ∷ v ∷ us) (Character16 (surrogate_pair_char u v)) us (first_pair u v us p)
      (parts_exist us (AreCodeUnits-tail v us (AreCodeUnits-tail u (v ∷ us) a)))
  | inr n ↦ one_more u (v ∷ us) (a 0) n (parts_exist (v ∷ us) (AreCodeUnits-tail u (v ∷ us) a))
]

pub rest_paired : (n : ℕ) (ps : List Part16) → ArePaired ps → ArePaired (drop n ps)
rest_paired zero ps a = a
rest_paired (suc n) [] a = tt
rest_paired (suc n) (p ∷ ps) a = rest_paired n ps (tail_paired p ps a)

-- the parts after the first n are those of the units after theirs
pub rest_parts : (us : List ℕ) (ps : List Part16) (n : ℕ) → ArePartsOf16 us ps
    → ArePartsOf16 (drop (length (flat_map units_of_part16 (take n ps))) us) (drop n ps)
rest_parts us ps n (a, e) =
    let whole : flat_map units_of_part16 (take n ps) ++ flat_map units_of_part16 (drop n ps) ≡ us =
    sym (flat_map-append units_of_part16 (take n ps) (drop n ps)) ∙ ap (flat_map units_of_part16) (take-append-drop n ps) ∙ e in (
      rest_paired n ps a,
      sym (drop_at (flat_map units_of_part16 (take n ps)) (flat_map units_of_part16 (drop n ps)) _ refl)
          ∙ ap (drop (length (flat_map units_of_part16 (take n ps)))) whole,
    )

-- ---- lengths
-- a part takes a unit
pub length-units_of_part16 : (p : Part16) → 0 < length (units_of_part16 p)
length-units_of_part16 (Unpaired u) = omega arith
length-units_of_part16 (Character16 c) = elim (cases_lt c 0x10000) [
  | inl l ↦ omega (arith, ap length (one_unit c l))
  | inr l ↦ omega (arith, ap length (two_units c l))
]

-- a part is written in one to three bytes for each of its units, and in four at most
pub length-utf8_of_part16 : (p : Part16) → (0 < length (utf8_of_part16 p)) × (length (utf8_of_part16 p) ≤ 3 * length (units_of_part16 p))
    × (length (utf8_of_part16 p) ≤ 4)
length-utf8_of_part16 (Unpaired u) = (omega (arith, length-encode 0xFFFD), omega (arith, length-encode 0xFFFD), omega (arith, length-encode 0xFFFD))
length-utf8_of_part16 (Character16 c) =
    let bounds = len_utf8_bounds c in
    (omega (arith, length-encode c, bounds), three_each c, omega (arith, length-encode c, bounds))
  where
    low_length : (c : ℕ) → c < 0x10000 → len_utf8 c ≤ 3
    low_length c l = grind (arith, nat_tests)

    three_each : (c : ℕ) → length (encode_utf8 c) ≤ 3 * length (encode_utf16 c)
    three_each c = elim (cases_lt c 0x10000) [
      | inl l ↦ omega (arith, ap length (one_unit c l), low_length c l, length-encode c)
      | inr l ↦ omega (arith, ap length (two_units c l), len_utf8_bounds c, length-encode c)
    ]

pub length-utf8_of_all : (ps : List Part16) → length (flat_map utf8_of_part16 ps) ≤ 3 * length (flat_map units_of_part16 ps)
length-utf8_of_all [] = omega arith
length-utf8_of_all (p ∷ ps) =
    omega (
      arith,
      length-utf8_of_all ps,
      (length-utf8_of_part16 p).1,
      length-append (utf8_of_part16 p) (flat_map utf8_of_part16 ps),
      length-append
          (units_of_part16 p) (flat_map units_of_part16 ps),
    )

-- no parts take no units
pub none_left : (ps : List Part16) → length (flat_map units_of_part16 ps) ≡ 0 → ps ≡ []
none_left [] e = refl
none_left (p ∷ ps) e = absurd (omega (arith, length-units_of_part16 p, length-append (units_of_part16 p) (flat_map units_of_part16 ps)))
