-- The characters of a text, and the code units of its UTF-16, are counted by its bytes.
use Rattle.std.proofs.Common.{Bool, ◌≡◌, ℕ, zero, suc, ◌+◌, ◌<◌, ◌≤◌, true, false, ◌&&◌, cond, eqb, leb, bit_and, get_or, ◌^◌, ◌%◌, List, [], ◌∷◌, ◌++◌, drop, length, slice_index, nat_le, encode_utf8, encode_utf8_all, refl, subst, ap, arith}
use Rattle.std.specs.Char.{IsScalar}
use lib.Utf8.{scalar}
use Rattle.std.specs.Char.Escape.{encode_utf16}
use Rattle.std.specs.List.{flat_map}
use Rattle.std.specs.Str.{IsUtf8, all_scalars, chars}
use Rattle.std.proofs.lemmas.Bool.Decides.{nat_tests}
use Rattle.std.proofs.lemmas.List.{length-append}
use Rattle.std.proofs.str.Laws.{both}
use Rattle.std.proofs.lemmas.Str.{encodes-chars, scalars-chars}
use mir.Val.{bool_byte}
use Rattle.encoding_definitions.specs.Sequence.{IsContinuation, IsSecond}
use Rattle.encoding_definitions.proofs.EncodingLemmas.{IsSequence-encode}
use Rattle.encoding_definitions.proofs.Latin1Lemmas.{at_drop_start}
use Rattle.encoding_definitions.proofs.SequenceLemmas.{HasShape, HasShape-IsSequence, second_more}
use Rattle.encoding_kernels.specs.Lengths.{sum_over_suffixes}
use Rattle.encoding_kernels.specs.KnownLengths.{begins, begins_by}
use Rattle.encoding_kernels.proofs.LengthLemmas.{units_of_character}
use Rattle.encoding_kernels.proofs.PairsLemmas.{follows_test}
use Rattle.encoding_kernels.proofs.SumLemmas.{loaded}
use Rattle.std.specs.Simd.Lanes.{chunk}

pub term_begun : (pairs : Bool) (xs : List ℕ) (i : ℕ) → begins pairs (drop i xs) ≡ begins_by pairs (slice_index xs i)
term_begun pairs xs i = ap (begins_by pairs) (at_drop_start xs i)

pub loaded_begun : (pairs : Bool) (xs : List ℕ) (at n k : ℕ) → k < n → begins_by pairs (get_or (chunk at n xs) k 0) ≡ begins pairs (drop (at + k) xs)
loaded_begun pairs xs at n k l = ap (begins_by pairs) (loaded xs at n 0 k at (omega arith) l)

-- ---- by a byte
pub begun_lane : (pairs : Bool) (b more : ℕ) → b < 2 ^ 8 → more ≡ bool_byte pairs
    → (cond (eqb (bit_and b 0xC0) 0x80) 0 1 + cond (leb 0xF0 b) more 0) % 2 ^ 8 ≡ begins_by pairs b
begun_lane true b more l e = let two_bits = follows_test b l in grind (arith, nat_tests)
begun_lane false b more l e = let two_bits = follows_test b l in grind (arith, nat_tests)

-- ---- by the bytes of one character
none : (pairs : Bool) (b : ℕ) → IsContinuation b → begins_by pairs b ≡ 0
none pairs b t = grind (arith, nat_tests)

one : (pairs : Bool) (b : ℕ) → b < 0xF0 → (IsContinuation b → ⊥) → begins_by pairs b ≡ 1
one true b l n = grind (arith, nat_tests)
one false b l n = grind (arith, nat_tests)

four : (pairs : Bool) (b : ℕ) → 0xF0 ≤ b → begins_by pairs b ≡ 1 + bool_byte (pairs && true)
four true b l = grind (arith, nat_tests)
four false b l = grind (arith, nat_tests)

pub ascii_begun : (pairs : Bool) (xs : List ℕ) (n : ℕ) → n ≤ length xs → ((k : ℕ) → k < n → slice_index xs k < 0x80)
    → sum_over_suffixes (begins pairs) xs ≡ n + sum_over_suffixes (begins pairs) (drop n xs)
unfolding sum_over_suffixes
ascii_begun pairs xs zero l h = omega arith
ascii_begun pairs [] (suc n) l h = absurd (omega (arith, l))
ascii_begun pairs (x ∷ xs) (suc n) l h =
    let low : x < 0x80 = h 0 (omega arith) in
    omega (
      arith,
      one pairs x (omega arith) (λ t. omega (arith, t.0)),
      ascii_begun pairs xs n (omega arith) (λ k m. h (suc k) (omega arith)),
    )

pub second_continues : (a b : ℕ) → IsSecond a b → IsContinuation b
second_continues a b s = grind (arith, nat_tests)

shape_begun : (pairs : Bool) (x rest : List ℕ) → HasShape x
    → sum_over_suffixes (begins pairs) (x ++ rest) ≡ 1 + bool_byte (pairs && nat_le 4 (length x)) + sum_over_suffixes (begins pairs) rest
unfolding sum_over_suffixes
shape_begun pairs [] rest h = absurd h
shape_begun true (a ∷ []) rest h = omega (arith, one true a (omega arith) (λ t. omega (arith, t.0)))
shape_begun false (a ∷ []) rest h = omega (arith, one false a (omega arith) (λ t. omega (arith, t.0)))
shape_begun true (a ∷ b ∷ []) rest (l, m, t) = omega (arith, one true a (omega arith) (λ t. omega (arith, t.1)), none true b t)
shape_begun false (a ∷ b ∷ []) rest (l, m, t) = omega (arith, one false a (omega arith) (λ t. omega (arith, t.1)), none false b t)
shape_begun true (a ∷ b ∷ c ∷ []) rest (l, m, s, t) =
    omega (arith, one true a (omega arith) (λ t. omega (arith, t.1)), none true b (second_continues a b (second_more a b l (omega arith) s)), none true c t)
shape_begun false (a ∷ b ∷ c ∷ []) rest (l, m, s, t) =
    omega (arith, one false a (omega arith) (λ t. omega (arith, t.1)), none false b (second_continues a b (second_more a b l (omega arith) s)), none false c t)
shape_begun true (a ∷ b ∷ c ∷ d ∷ []) rest (l, m, s, t, f) =
    omega (arith, four true a l, none true b (second_continues a b (second_more a b (omega arith) m s)), none true c t, none true d f)
shape_begun false (a ∷ b ∷ c ∷ d ∷ []) rest (l, m, s, t, f) =
    omega (arith, four false a l, none false b (second_continues a b (second_more a b (omega arith) m s)), none false c t, none false d f)
shape_begun pairs (a ∷ b ∷ c ∷ d ∷ e ∷ more) rest h = absurd h

character_begun : (pairs : Bool) (c : ℕ) (rest : List ℕ) → IsScalar c
    → sum_over_suffixes (begins pairs) (encode_utf8 c ++ rest)
    ≡ 1 + bool_byte (pairs && nat_le 4 (length (encode_utf8 c))) + sum_over_suffixes (begins pairs) rest
character_begun pairs c rest s = shape_begun pairs (encode_utf8 c) rest (HasShape-IsSequence (encode_utf8 c) (IsSequence-encode c s))

-- ---- by all of a text
characters_total : (cs : List ℕ) → all_scalars cs ≡ true → sum_over_suffixes (begins false) (encode_utf8_all cs) ≡ length cs
unfolding sum_over_suffixes
characters_total [] s = refl
characters_total (c ∷ cs) s =
    let parts = both (scalar c) (all_scalars cs) s in
    omega (arith, character_begun false c (encode_utf8_all cs) parts.0, characters_total cs parts.1)

units_total : (cs : List ℕ) → all_scalars cs ≡ true → sum_over_suffixes (begins true) (encode_utf8_all cs) ≡ length (flat_map encode_utf16 cs)
unfolding sum_over_suffixes
units_total [] s = refl
units_total (c ∷ cs) s =
    let parts = both (scalar c) (all_scalars cs) s in
    omega (
      arith,
      character_begun true c (encode_utf8_all cs) parts.0,
      units_of_character c parts.0,
      units_total cs parts.1,
      length-append (encode_utf16 c) (flat_map encode_utf16 cs),
    )

pub characters_begun : (bs : List ℕ) → IsUtf8 bs → sum_over_suffixes (begins false) bs ≡ length (chars bs)
characters_begun bs u =
    subst (λ xs. sum_over_suffixes (begins false) xs ≡ length (chars bs)) (encodes-chars bs u) (characters_total (chars bs) (scalars-chars bs u))

pub units_begun : (bs : List ℕ) → IsUtf8 bs → sum_over_suffixes (begins true) bs ≡ length (flat_map encode_utf16 (chars bs))
units_begun bs u =
    subst (λ xs. sum_over_suffixes (begins true) xs ≡ length (flat_map encode_utf16 (chars bs))) (encodes-chars bs u)
    (units_total (chars bs) (scalars-chars bs u))
