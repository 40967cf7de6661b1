-- The well-formed sequences are the UTF-8 of the scalar values, one for each: the scalar value of a sequence, from the
-- bits of its bytes.
use Rattle.std.proofs.Common.{◌≡◌, ℕ, ◌+◌, ◌-◌, ◌*◌, ◌/◌, ◌%◌, ◌<◌, ◌≤◌, ◌⊎◌, inl, inr, List, [], ◌∷◌, ◌++◌, length, encode_utf8}
use Rattle.std.proofs.Common.{encode_utf8_all, refl, sym, ap, ◌∙◌, arith, true, ◌^◌, slice_index, bit_and, bit_or, subst}
use Rattle.std.specs.Prelude.{IsTrue}
use Rattle.std.specs.Char.{IsScalar}
use Rattle.std.specs.List.{flat_map}
use Rattle.std.proofs.str.Laws.{one, two, three, four}
use Rattle.std.specs.Str.{all_scalars}
use Rattle.std.proofs.lemmas.Bool.{and_parts, cases_lt}
use Rattle.std.proofs.lemmas.Bool.Decides.{nat_tests}
use Rattle.std.proofs.lemmas.List.{append-nil, length-append}
use Rattle.std.specs.Char.Escape.{encode_utf16}
use Rattle.std.proofs.lemmas.Str.{encode_same, length-encode, len_utf8_bounds}
use lib.Utf8.{low_scalar, scalar, scalar_cases}
use Rattle.encoding_definitions.specs.Sequence.{IsSequence, IsContinuation}
use Rattle.encoding_definitions.proofs.SequenceLemmas.{HasShape, is_second, HasShape-IsSequence, IsSequence-HasShape}
use Rattle.std.proofs.lemmas.Grind.{common_steps}
use Rattle.std.proofs.lemmas.Nat.{or_shifted}

pub high_scalar : (c : ℕ) → 57344 ≤ c → c < 1114112 → IsScalar c
high_scalar c l h = grind (arith, nat_tests)

-- the bytes are the UTF-8 of the scalar value c
abbrev pub EncodedBy : List ℕ → ℕ → Type 0
EncodedBy bs c = IsScalar c × (encode_utf8 c ≡ bs)

abbrev EncodesTo : List ℕ → Type 0
EncodesTo bs = (c : ℕ) × (EncodedBy bs c)

same_two : (a b x y : ℕ) → a ≡ x → b ≡ y → ◌≡◌ {A = List ℕ} (a ∷ b ∷ []) (x ∷ y ∷ [])
same_two a b x y e f = rw (e, f) refl

same_three : (a b c x y z : ℕ) → a ≡ x → b ≡ y → c ≡ z → ◌≡◌ {A = List ℕ} (a ∷ b ∷ c ∷ []) (x ∷ y ∷ z ∷ [])
same_three a b c x y z e f g = rw (e, f, g) refl

same_four : (a b c d x y z w : ℕ) → a ≡ x → b ≡ y → c ≡ z → d ≡ w → ◌≡◌ {A = List ℕ} (a ∷ b ∷ c ∷ d ∷ []) (x ∷ y ∷ z ∷ w ∷ [])
same_four a b c d x y z w e f g h = rw (e, f, g, h) refl

-- bounds of the second byte after the first of three, and of four, as one number
pub second_three : (a b : ℕ) → 0xE0 ≤ a → a ≤ 0xEF → IsTrue (is_second a b) → (128 ≤ b) × (b < 192) × (32 ≤ (a - 224) * 64 + (b - 128))
    × (((a - 224) * 64 + (b - 128) < 864) ⊎ (896 ≤ (a - 224) * 64 + (b - 128)))
second_three a b l h s = grind (arith, nat_tests)

pub second_four : (a b : ℕ) → 0xF0 ≤ a → a ≤ 0xF4 → IsTrue (is_second a b)
    → (128 ≤ b) × (b < 192) × (16 ≤ (a - 240) * 64 + (b - 128)) × ((a - 240) * 64 + (b - 128) < 272)
second_four a b l h s = grind (arith, nat_tests)

pub spells_two : (a b : ℕ) → HasShape (a ∷ b ∷ []) → EncodedBy (a ∷ b ∷ []) ((a - 192) * 64 + (b - 128))
spells_two a b h =
    let c = (a - 192) * 64 + (b - 128) in
    (low_scalar c (omega arith), two c (omega arith) (omega arith) ∙ same_two _ _ _ _ (omega arith) (omega arith))

pub spells_three : (a b d : ℕ) → HasShape (a ∷ b ∷ d ∷ []) → EncodedBy (a ∷ b ∷ d ∷ []) ((a - 224) * 4096 + (b - 128) * 64 + (d - 128))
spells_three a b d h =
    let l = second_three a b h.0 h.1 h.2 in
    let c = (a - 224) * 4096 + (b - 128) * 64 + (d - 128) in
    let scalar_is : IsScalar c = elim l.3 [ inl p ↦ low_scalar c (omega arith) | inr p ↦ high_scalar c (omega arith) (omega arith) ] in
    (scalar_is, three c (omega arith) (omega arith) ∙ same_three _ _ _ _ _ _ (omega arith) (omega arith) (omega arith))

pub spells_four : (a b d e : ℕ) → HasShape (a ∷ b ∷ d ∷ e ∷ [])
    → EncodedBy (a ∷ b ∷ d ∷ e ∷ []) ((a - 240) * 262144 + (b - 128) * 4096 + (d - 128) * 64 + (e - 128))
spells_four a b d e h =
    let l = second_four a b h.0 h.1 h.2 in
    let c = (a - 240) * 262144 + (b - 128) * 4096 + (d - 128) * 64 + (e - 128) in
    let third : c / 64 ≡ (a - 240) * 4096 + (b - 128) * 64 + (d - 128) = omega arith in
    (high_scalar c (omega arith) (omega arith), four c (omega arith) ∙ same_four _ _ _ _ _ _ _ _ (omega arith) (omega arith) (omega arith) (omega arith))

spells_shape : (bs : List ℕ) → HasShape bs → EncodesTo bs
spells_shape [] h = absurd h
spells_shape (a ∷ []) h = (a, (low_scalar a (omega arith), one a (omega arith)))
spells_shape (a ∷ b ∷ []) h = (_, spells_two a b h)
spells_shape (a ∷ b ∷ c ∷ []) h = (_, spells_three a b c h)
spells_shape (a ∷ b ∷ c ∷ d ∷ []) h = (_, spells_four a b c d h)
spells_shape (a ∷ b ∷ c ∷ d ∷ e ∷ more) h = absurd h

pub decode_utf8_scalar : (bs : List ℕ) → IsSequence bs → (c : ℕ) × IsScalar c × (encode_utf8 c ≡ bs)
decode_utf8_scalar bs s = let found = spells_shape bs (HasShape-IsSequence bs s) in (found.0, found.1.0, found.1.1)

last_bits : (n : ℕ) → IsContinuation (128 + n % 64)
last_bits n = (omega arith, omega arith)

three_second : (c : ℕ) → 2048 ≤ c → (c < 55296) ⊎ ((57344 ≤ c) × (c < 65536)) → IsTrue (is_second (224 + c / 4096) (128 + c / 64 % 64))
three_second c l (inl p) = grind (arith, nat_tests)
three_second c l (inr p) = grind (arith, nat_tests)

four_second : (c : ℕ) → 65536 ≤ c → c < 1114112 → IsTrue (is_second (240 + c / 262144) (128 + c / 4096 % 64))
four_second c l h = grind (arith, nat_tests)

shape_scalar : (c : ℕ) → IsScalar c → HasShape (encode_utf8 c)
shape_scalar c h =
    let s = scalar_cases c h in
    elim (cases_lt c 128) [
      | inl p ↦ rw (one c p) (omega arith)
      | inr p ↦ elim (cases_lt c 2048) [
        | inl q ↦ rw (two c p q) (omega arith, omega arith, last_bits c)
        | inr q ↦ elim (cases_lt c 65536) [
          | inl r ↦ rw (three c q r) (omega arith, omega arith, three_second c q (elim s [ inl x ↦ inl x | inr y ↦ inr (y.0, r) ]), last_bits c)
          | inr r ↦ let top : c < 1114112 = elim s [ inl x ↦ omega arith | inr y ↦ y.1 ] in
              rw (four c r) (omega arith, omega arith, four_second c r top, last_bits (c / 64), last_bits c)
        ]
      ]
    ]

pub IsSequence-encode : (c : ℕ) → IsScalar c → IsSequence (encode_utf8 c)
IsSequence-encode c h = IsSequence-HasShape _ (shape_scalar c h)

-- no sequence is a proper prefix of another
pub sequence_ends : (bs rest : List ℕ) → IsSequence bs → IsSequence (bs ++ rest) → rest ≡ []
sequence_ends bs rest s t =
    let c = decode_utf8_scalar bs s in
    let d = decode_utf8_scalar (bs ++ rest) t in
    (encode_same c.0 d.0 rest [] (ap (λ xs. xs ++ rest) c.2 ∙ sym d.2 ∙ sym (append-nil (encode_utf8 d.0)))).1

-- ---- lengths
pub length_encode_utf8_le : (c : ℕ) → IsScalar c → length (encode_utf8 c) ≤ 4
length_encode_utf8_le c h = omega (arith, length-encode c, len_utf8_bounds c)

pub length-encode_utf16-le : (c : ℕ) → IsScalar c → length (encode_utf16 c) ≤ 2
length-encode_utf16-le c h = grind (arith, nat_tests)

-- UTF-16 has no more code units than UTF-8 has bytes
pub length_encode_utf16_utf8 : (c : ℕ) → IsScalar c → length (encode_utf16 c) ≤ length (encode_utf8 c)
length_encode_utf16_utf8 c h = let long = length-encode c in grind (arith, nat_tests)

-- ---- joined
pub flat_map-encode_utf8 : (cs : List ℕ) → flat_map encode_utf8 cs ≡ encode_utf8_all cs
flat_map-encode_utf8 [] = refl
flat_map-encode_utf8 (c ∷ cs) = ap (λ xs. encode_utf8 c ++ xs) (flat_map-encode_utf8 cs)

-- ---- several scalar values
pub encodes_one : (c : ℕ) → encode_utf8_all (c ∷ []) ≡ encode_utf8 c
encodes_one c = append-nil (encode_utf8 c)

-- UTF-16 has no more code units than UTF-8 has bytes
pub length-utf16 : (cs : List ℕ) → all_scalars cs ≡ true → length (flat_map encode_utf16 cs) ≤ length (encode_utf8_all cs)
length-utf16 [] h = omega arith
length-utf16 (c ∷ cs) h =
    let parts = and_parts (scalar c) (all_scalars cs) h in
    omega (
      arith,
      length-utf16 cs parts.1,
      length_encode_utf16_utf8 c parts.0,
      length-append (encode_utf16 c) (flat_map encode_utf16 cs),
      length-append
          (encode_utf8 c) (encode_utf8_all cs),
    )

low_five : (a : ℕ) → 0xC2 ≤ a → a ≤ 0xDF → bit_and a 0x1F ≡ a - 192
low_five a l h = let e : bit_and a 0x1F ≡ a % 32 = grind (arith, common_steps) in omega arith

low_four : (a : ℕ) → 0xE0 ≤ a → a ≤ 0xEF → bit_and a 0x0F ≡ a - 224
low_four a l h = let e : bit_and a 0x0F ≡ a % 16 = grind (arith, common_steps) in omega arith

low_three : (a : ℕ) → 0xF0 ≤ a → a ≤ 0xF4 → bit_and a 0x07 ≡ a - 240
low_three a l h = let e : bit_and a 0x07 ≡ a % 8 = grind (arith, common_steps) in omega arith

low_six : (b : ℕ) → 0x80 ≤ b → b ≤ 0xBF → bit_and b 0x3F ≡ b - 128
low_six b l h = let e : bit_and b 0x3F ≡ b % 64 = grind (arith, common_steps) in omega arith

-- the words joined by `|` have no bits in common
join_two : (x y : ℕ) → x < 32 → y < 64 → bit_or (x * 64 % 4294967296) y ≡ x * 64 + y
join_two x y l h = let e : x * 64 % 4294967296 ≡ x * 64 = omega arith in rw e (or_shifted x 6 y h)

join_three : (x y z : ℕ) → x < 16 → y < 64 → z < 64 → bit_or (bit_or (x * 4096 % 4294967296) (y * 64 % 4294967296)) z ≡ x * 4096 + y * 64 + z
join_three x y z l h k =
    let e : x * 4096 % 4294967296 ≡ x * 2 ^ 12 = omega arith in
    let f : y * 64 % 4294967296 ≡ y * 64 = omega arith in
    let prefix : bit_or (x * 4096 % 4294967296) (y * 64 % 4294967296) ≡ (x * 64 + y) * 2 ^ 6 =
    rw (e, f) (or_shifted x 12 (y * 64) (omega arith) ∙ omega arith) in
    ap (λ n. bit_or n z) prefix ∙ or_shifted (x * 64 + y) 6 z k ∙ omega arith

join_four : (x y z w : ℕ) → x < 8 → y < 64 → z < 64 → w < 64
    → bit_or (bit_or (bit_or (x * 262144 % 4294967296) (y * 4096 % 4294967296)) (z * 64 % 4294967296)) w ≡ x * 262144 + y * 4096 + z * 64 + w
join_four x y z w l h k m =
    let e : x * 262144 % 4294967296 ≡ x * 2 ^ 18 = omega arith in
    let f : y * 4096 % 4294967296 ≡ y * 4096 = omega arith in
    let g : z * 64 % 4294967296 ≡ z * 64 = omega arith in
    let first : bit_or (x * 262144 % 4294967296) (y * 4096 % 4294967296) ≡ (x * 64 + y) * 2 ^ 12 =
    rw (e, f) (or_shifted x 18 (y * 4096) (omega arith) ∙ omega arith) in
    let second : bit_or ((x * 64 + y) * 2 ^ 12) (z * 64 % 4294967296) ≡ (x * 4096 + y * 64 + z) * 2 ^ 6 =
    rw g (or_shifted (x * 64 + y) 12 (z * 64) (omega arith) ∙ omega arith) in
    ap (λ n. bit_or (bit_or n (z * 64 % 4294967296)) w) first ∙ ap (λ n. bit_or n w) second ∙ or_shifted (x * 4096 + y * 64 + z) 6 w m ∙ omega arith

pub scalar_two : (bs : List ℕ) (x y : ℕ) → IsSequence bs → 2 ≤ length bs → length bs < 3 → x ≡ bit_and (slice_index bs 0) 0x1F
    → y ≡ bit_and (slice_index bs 1) 0x3F
    → EncodedBy bs (bit_or (x * 64 % 4294967296) y)
scalar_two [] x y s l h e f = absurd (omega arith)
scalar_two (a ∷ []) x y s l h e f = absurd (omega arith)
scalar_two (a ∷ b ∷ []) x y s l h e f =
    let t = HasShape-IsSequence (a ∷ b ∷ []) s in
    let p = e ∙ low_five a t.0 t.1 in
    let q = f ∙ low_six b t.2.0 t.2.1 in
    let c = spells_two a b t in
    let same : bit_or (x * 64 % 4294967296) y ≡ (a - 192) * 64 + (b - 128) = join_two x y (omega (arith, p)) (omega (arith, q)) ∙ omega (arith, p, q) in
    subst (λ n. EncodedBy (a ∷ b ∷ []) n) (sym same) c
scalar_two (a ∷ b ∷ c ∷ more) x y s l h e f = absurd (omega arith)

pub scalar_three : (bs : List ℕ) (x y z : ℕ) → IsSequence bs → 3 ≤ length bs → length bs < 4 → x ≡ bit_and (slice_index bs 0) 0x0F
    → y ≡ bit_and (slice_index bs 1) 0x3F → z ≡ bit_and (slice_index bs 2) 0x3F
    → EncodedBy bs (bit_or (bit_or (x * 4096 % 4294967296) (y * 64 % 4294967296)) z)
scalar_three [] x y z s l h e f g = absurd (omega arith)
scalar_three (a ∷ []) x y z s l h e f g = absurd (omega arith)
scalar_three (a ∷ b ∷ []) x y z s l h e f g = absurd (omega arith)
scalar_three (a ∷ b ∷ d ∷ []) x y z s l h e f g =
    let t = HasShape-IsSequence (a ∷ b ∷ d ∷ []) s in
    let second = second_three a b t.0 t.1 t.2 in
    let p = e ∙ low_four a t.0 t.1 in
    let q = f ∙ low_six b second.0 (omega (arith, second.1)) in
    let r = g ∙ low_six d t.3.0 t.3.1 in
    let same : bit_or (bit_or (x * 4096 % 4294967296) (y * 64 % 4294967296)) z ≡ (a - 224) * 4096 + (b - 128) * 64 + (d - 128) =
    join_three x y z (omega (arith, p)) (omega (arith, q, second.1)) (omega (arith, r)) ∙ omega (arith, p, q, r) in
    subst (λ n. EncodedBy (a ∷ b ∷ d ∷ []) n) (sym same) (spells_three a b d t)
scalar_three (a ∷ b ∷ c ∷ d ∷ more) x y z s l h e f g = absurd (omega arith)

pub scalar_four : (bs : List ℕ) (x y z w : ℕ) → IsSequence bs → 4 ≤ length bs → length bs < 5 → x ≡ bit_and (slice_index bs 0) 0x07
    → y ≡ bit_and (slice_index bs 1) 0x3F → z ≡ bit_and (slice_index bs 2) 0x3F
    → w ≡ bit_and (slice_index bs 3) 0x3F
    → EncodedBy bs (bit_or (bit_or (bit_or (x * 262144 % 4294967296) (y * 4096 % 4294967296)) (z * 64 % 4294967296)) w)
scalar_four [] x y z w s l h e f g i = absurd (omega arith)
scalar_four (a ∷ []) x y z w s l h e f g i = absurd (omega arith)
scalar_four (a ∷ b ∷ []) x y z w s l h e f g i = absurd (omega arith)
scalar_four (a ∷ b ∷ d ∷ []) x y z w s l h e f g i = absurd (omega arith)
scalar_four (a ∷ b ∷ d ∷ k ∷ []) x y z w s l h e f g i =
    let t = HasShape-IsSequence (a ∷ b ∷ d ∷ k ∷ []) s in
    let second = second_four a b t.0 t.1 t.2 in
    let p = e ∙ low_three a t.0 t.1 in
    let q = f ∙ low_six b second.0 (omega (arith, second.1)) in
    let r = g ∙ low_six d t.3.0 t.3.1 in
    let u = i ∙ low_six k t.4.0 t.4.1 in
    let same : bit_or
    (bit_or (bit_or (x * 262144 % 4294967296) (y * 4096 % 4294967296))
    (z * 64 % 4294967296)) w ≡ (a - 240) * 262144 + (b - 128) * 4096 + (d - 128) * 64 + (k - 128) =
    join_four x y z w (omega (arith, p)) (omega (arith, q, second.1)) (omega (arith, r)) (omega (arith, u)) ∙ omega (arith, p, q, r, u) in
    subst (λ n. EncodedBy (a ∷ b ∷ d ∷ k ∷ []) n) (sym same) (spells_four a b d k t)
scalar_four (a ∷ b ∷ c ∷ d ∷ e' ∷ more) x y z w s l h e f g i = absurd (omega arith)
