-- The bytes of code units and of characters in UTF-16LE and UTF-16BE, and that no pending bytes start with a character.
use Rattle.std.proofs.Common.{◌≡◌, ℕ, zero, suc, ◌*◌, ◌<◌, ◌≤◌, ◌⊎◌, inl, inr, true, List, [], ◌∷◌, ◌++◌, length, take, drop, slice_index, refl, sym, ap, ◌∙◌}
use Rattle.std.proofs.Common.{arith, append_assoc}
use Rattle.std.specs.Int.{w16, from_le_bytes, from_be_bytes}
use Rattle.std.specs.Char.{IsScalar}
use Rattle.std.specs.Char.Escape.{encode_utf16}
use Rattle.std.specs.Char.Utf16.{surrogate_pair_char}
use Rattle.std.specs.List.{flat_map}
use Rattle.std.specs.Str.{all_scalars}
use Rattle.std.proofs.lemmas.Bool.{and_parts, cases_lt}
use Rattle.std.proofs.lemmas.List.{append-nil, length-append, length-take-le, take_at, take-append-drop}
use Rattle.std.proofs.lemmas.List.Concat.{flat_map-append}
use Rattle.std.proofs.lemmas.Nat.{from_le_bytes-to_le_bytes_2, from_be_bytes-to_be_bytes_2, le_bytes_2, be_bytes_2}
use Rattle.std.proofs.str.Utf16.{one_unit}
use lib.Utf8.{scalar_cases}
use Rattle.encoding_text.specs.Utf16.{AreCodeUnits, IsHighSurrogate, IsLowSurrogate}
use Rattle.encoding_text.specs.Encoding.{IsPendingSurrogate}
use Rattle.encoding_text.specs.Utf16Bytes.{bytes_of_scalars, unit_bytes, utf16_bytes}
use Rattle.encoding_text.specs.declared.utf_16.ByteOrder.{ByteOrder}
use Rattle.encoding_text.specs.declared.utf_16.ByteOrder.TheVariants.{LittleEndian, BigEndian}
use Rattle.encoding_definitions.proofs.Utf16Lemmas.{halves}
use Rattle.encoding_streams.specs.Utf16Parts.{IsPendingUtf16}

-- ---- a code unit
-- the code unit of two bytes
abbrev pub unit_at : ByteOrder → ℕ → ℕ → ℕ
unit_at LittleEndian a b = from_le_bytes w16 (a ∷ b ∷ [])
unit_at BigEndian a b = from_be_bytes w16 (a ∷ b ∷ [])

abbrev pub first_byte : ByteOrder → ℕ → ℕ
first_byte order u = slice_index (unit_bytes order u) 0

abbrev pub second_byte : ByteOrder → ℕ → ℕ
second_byte order u = slice_index (unit_bytes order u) 1

pub two_bytes : (order : ByteOrder) (u : ℕ) → unit_bytes order u ≡ first_byte order u ∷ second_byte order u ∷ []
two_bytes LittleEndian u = refl
two_bytes BigEndian u = refl

pub unit_of_bytes : (order : ByteOrder) (u : ℕ) → u < 0x10000 → unit_at order (first_byte order u) (second_byte order u) ≡ u
unit_of_bytes LittleEndian u l = from_le_bytes-to_le_bytes_2 u l
unit_of_bytes BigEndian u l = from_be_bytes-to_be_bytes_2 u l

pub bytes_of_unit : (order : ByteOrder) (a b : ℕ) → a < 256 → b < 256 → unit_bytes order (unit_at order a b) ≡ a ∷ b ∷ []
bytes_of_unit order a b h k = at order bounds
  where
    bounds : (i : ℕ) → slice_index (a ∷ b ∷ []) i < 256
    bounds zero = h
    bounds (suc zero) = k
    bounds (suc (suc i)) = omega arith

    at : (order : ByteOrder) → ((i : ℕ) → slice_index (a ∷ b ∷ []) i < 256) → unit_bytes order (unit_at order a b) ≡ a ∷ b ∷ []
    at LittleEndian f = le_bytes_2 (a ∷ b ∷ []) _ refl f refl
    at BigEndian f = be_bytes_2 (a ∷ b ∷ []) _ refl f refl

pub unit_at-bound : (order : ByteOrder) (a b : ℕ) → a < 256 → b < 256 → unit_at order a b < 0x10000
unit_at-bound LittleEndian a b h k = omega arith
unit_at-bound BigEndian a b h k = omega arith

pub length-unit_bytes : (order : ByteOrder) (u : ℕ) → length (unit_bytes order u) ≡ 2
length-unit_bytes order u = ap length (two_bytes order u)

-- two code units at the start of the same bytes are one
pub same_unit : (order : ByteOrder) (u v : ℕ) (xs ys : List ℕ) → u < 0x10000 → v < 0x10000 → unit_bytes order u ++ xs ≡ unit_bytes order v ++ ys
    → (u ≡ v) × (xs ≡ ys)
same_unit order u v xs ys h k e =
    let bytes : first_byte order u ∷ second_byte order u ∷ xs ≡ first_byte order v ∷ second_byte order v ∷ ys =
    ap (λ zs. zs ++ xs) (sym (two_bytes order u)) ∙ e ∙ ap (λ zs. zs ++ ys) (two_bytes order v) in
    let first : first_byte order u ≡ first_byte order v = cc in
    let second : second_byte order u ≡ second_byte order v = cc in
    (sym (unit_of_bytes order u h) ∙ (λ i. unit_at order (first i) (second i)) ∙ unit_of_bytes order v k, cc)

-- ---- several
pub length-utf16_bytes : (order : ByteOrder) (us : List ℕ) → length (utf16_bytes order us) ≡ 2 * length us
length-utf16_bytes order [] = refl
length-utf16_bytes order (u ∷ us) =
    omega (arith, length-append (unit_bytes order u) (utf16_bytes order us), length-unit_bytes order u, length-utf16_bytes order us)

pub utf16_bytes-append : (order : ByteOrder) (us vs : List ℕ) → utf16_bytes order (us ++ vs) ≡ utf16_bytes order us ++ utf16_bytes order vs
utf16_bytes-append order us vs = flat_map-append (unit_bytes order) us vs

-- code units with the same bytes are the same
pub same_units : (order : ByteOrder) (us vs : List ℕ) → AreCodeUnits us → AreCodeUnits vs → utf16_bytes order us ≡ utf16_bytes order vs → us ≡ vs
same_units order [] [] f g e = refl
same_units order [] (v ∷ vs) f g e = absurd (omega (arith, ap length e, length-append (unit_bytes order v) (utf16_bytes order vs), length-unit_bytes order v))
same_units order (u ∷ us) [] f g e = absurd (omega (arith, ap length e, length-append (unit_bytes order u) (utf16_bytes order us), length-unit_bytes order u))
same_units order (u ∷ us) (v ∷ vs) f g e =
    let (first, rest) = same_unit order u v (utf16_bytes order us) (utf16_bytes order vs) (f zero) (g zero) e in
    (λ i. first i ∷ same_units order us vs (λ k. f (suc k)) (λ k. g (suc k)) rest i)

pub take-utf16_bytes : (order : ByteOrder) (us : List ℕ) (n : ℕ) → n ≤ length us → take (2 * n) (utf16_bytes order us) ≡ utf16_bytes order (take n us)
take-utf16_bytes order us n h =
    ap (λ xs. take (2 * n) (utf16_bytes order xs)) (sym (take-append-drop n us)) ∙ ap (take (2 * n)) (utf16_bytes-append order (take n us) (drop n us))
    ∙ take_at (utf16_bytes order (take n us)) (utf16_bytes order (drop n us)) (2 * n)
    (length-utf16_bytes order (take n us) ∙ ap (λ k. 2 * k) (length-take-le n us h))

-- ---- characters
pub bytes_of_scalars-append : (order : ByteOrder) (cs ds : List ℕ) → bytes_of_scalars order (cs ++ ds) ≡ bytes_of_scalars order cs ++ bytes_of_scalars order ds
bytes_of_scalars-append order cs ds =
    ap (utf16_bytes order) (flat_map-append encode_utf16 cs ds) ∙ utf16_bytes-append order (flat_map encode_utf16 cs) (flat_map encode_utf16 ds)

-- one code unit that is no surrogate, or two that are a pair
abbrev pub CharacterBytes : ByteOrder → ℕ → Type 0
CharacterBytes order c = ((c < 0x10000) × ((c < 0xD800) ⊎ (0xDFFF < c)) × (utf16_bytes order (encode_utf16 c) ≡ unit_bytes order c))
    ⊎ ((u v : ℕ) × IsHighSurrogate u × IsLowSurrogate v × (surrogate_pair_char u v ≡ c)
    × (utf16_bytes order (encode_utf16 c) ≡ unit_bytes order u ++ unit_bytes order v))

pub character_bytes : (order : ByteOrder) (c : ℕ) → IsScalar c → CharacterBytes order c
character_bytes order c s = elim (cases_lt c 0x10000) [
  | inl l ↦ inl
      (l, elim (scalar_cases c s) [ inl h ↦ inl h | inr h ↦ inr (omega (arith, h.0)) ], ap (utf16_bytes order) (one_unit c l) ∙ append-nil (unit_bytes order c))
  | inr l ↦ let two = halves c l s in
      inr (
        two.0,
        two.1,
        (two.2.0, omega (arith, two.2.1)),
        (two.2.2, omega (arith, two.2.3)),
        two.4,
        ap (utf16_bytes order) two.3 ∙ ap (λ xs. unit_bytes order two.0 ++ xs) (append-nil (unit_bytes order two.1)),
      )
]

pub character_some : (order : ByteOrder) (c : ℕ) → IsScalar c → 2 ≤ length (utf16_bytes order (encode_utf16 c))
character_some order c s = elim (character_bytes order c s) [
  | inl h ↦ omega (arith, ap length h.2, length-unit_bytes order c)
  | inr (u, v, a, b, e, f) ↦ omega (arith, ap length f, length-append (unit_bytes order u) (unit_bytes order v), length-unit_bytes order u)
]

-- ---- pending bytes
pub pending_nil : (order : ByteOrder) → IsPendingUtf16 order []
pending_nil order = record { surrogate = []; is_high = tt; odd = []; one = omega arith; whole = refl }

-- a high surrogate and at most one byte aren't a character
high_pending : (order : ByteOrder) (u c : ℕ) (odd rest : List ℕ) → IsScalar c → IsHighSurrogate u → length odd ≤ 1
    → (unit_bytes order u ++ []) ++ odd ≡ utf16_bytes order (encode_utf16 c) ++ rest → ⊥
high_pending order u c odd rest s h l e = elim (character_bytes order c s) [
  | inl (small, apart, f) ↦
      let same = same_unit order u c odd rest (omega (arith, h)) small (ap (λ xs. xs ++ odd) (sym (append-nil (unit_bytes order u))) ∙ e
      ∙ ap (λ xs. xs ++ rest) f) in
      elim apart [ inl a ↦ omega (arith, same.0, h) | inr a ↦ omega (arith, same.0, h) ]
  | inr (a, b, high, low, same, f) ↦
      omega (
        arith,
        ap length e,
        length-append (unit_bytes order u ++ []) odd,
        length-append (unit_bytes order u) [],
        length-append (utf16_bytes order (encode_utf16 c)) rest,
        ap length f,
        length-append (unit_bytes order a) (unit_bytes order b),
        length-unit_bytes order u,
        length-unit_bytes order a,
        length-unit_bytes order b,
      )
]

pub no_character_pending : (order : ByteOrder) (c : ℕ) (rest p : List ℕ) → IsScalar c → IsPendingUtf16 order p
    → p ≡ utf16_bytes order (encode_utf16 c) ++ rest → ⊥
no_character_pending order c rest p s pending e = start pending.surrogate pending.is_high (sym pending.whole ∙ e)
  where
    start : (high : List ℕ) → IsPendingSurrogate high → utf16_bytes order high ++ pending.odd ≡ utf16_bytes order (encode_utf16 c) ++ rest → ⊥
    start [] h f =
        omega (arith, ap length f, length-append (utf16_bytes order (encode_utf16 c)) rest, character_some order c s, pending.one)
    start (u ∷ []) h f = high_pending order u c pending.odd rest s h pending.one f
    start (u ∷ v ∷ us) h f = h

pub no_characters_pending : (order : ByteOrder) (cs rest p : List ℕ) → all_scalars cs ≡ true → IsPendingUtf16 order p
    → p ≡ bytes_of_scalars order cs ++ rest → cs ≡ []
no_characters_pending order [] rest p h pending e = refl
no_characters_pending order (c ∷ cs) rest p h pending e =
    absurd (no_character_pending order c (bytes_of_scalars order cs ++ rest) p (and_parts _ _ h).0 pending
    (e ∙ ap (λ xs. xs ++ rest) (bytes_of_scalars-append order (c ∷ []) cs
    ∙ ap (λ us. utf16_bytes order us ++ bytes_of_scalars order cs) (append-nil (encode_utf16 c)))
    ∙ append_assoc (utf16_bytes order (encode_utf16 c)) (bytes_of_scalars order cs) rest))

-- at most three of them
pub length-pending : (order : ByteOrder) (p : List ℕ) → IsPendingUtf16 order p → length p ≤ 3
length-pending order p pending = start pending.surrogate pending.is_high pending.whole
  where
    start : (high : List ℕ) → IsPendingSurrogate high → p ≡ utf16_bytes order high ++ pending.odd → length p ≤ 3
    start [] h f = omega (arith, ap length f, pending.one)
    start (u ∷ []) h f =
        omega (
          arith,
          ap length f,
          pending.one,
          length-append (unit_bytes order u ++ []) pending.odd,
          length-append
              (unit_bytes order u) [],
          length-unit_bytes order u,
        )
    start (u ∷ v ∷ us) h f = absurd h
