-- The sums over whole texts are the lengths in another encoding.
use Rattle.std.proofs.Common.{◌≡◌, ℕ, suc, ◌+◌, ◌*◌, ◌/◌, ◌%◌, ◌<◌, ◌≤◌, inl, inr, false, cond, List, [], ◌∷◌, ◌++◌, length}
use Rattle.std.proofs.Common.{slice_index, nat_le, encode_utf8, encode_utf8_all, refl, sym, ap, ◌∙◌, arith, subst}
use Rattle.std.specs.Char.{IsScalar, len_utf8}
use Rattle.std.specs.Char.Escape.{encode_utf16}
use Rattle.std.specs.List.{flat_map}
use Rattle.std.specs.Str.{chars}
use Rattle.std.proofs.lemmas.Bool.{cases_lt}
use Rattle.std.proofs.lemmas.Bool.Decides.{nat_tests}
use Rattle.std.proofs.lemmas.List.{length-append}
use Rattle.std.proofs.lemmas.Str.{length-encode}
use Rattle.std.proofs.str.Laws.{one, two}
use Rattle.std.proofs.str.Utf16.{one_unit, IsPair}
use lib.Utf8.{scalar_cases}
use mir.Val.{bool_byte}
use Rattle.encoding_definitions.specs.Sequence.{IsContinuation, IsSecond, IsNeverLeading}
use Rattle.encoding_definitions.specs.Latin1.{IsLatin1, IsUtf8Latin1}
use Rattle.encoding_definitions.specs.Parts.{Part, Character, IllFormed, ArePartsOf, IsFirstPart}
use Rattle.encoding_definitions.specs.Parts.{BeginsWithNoCharacter, IsLongestIncomplete, lossy_scalar, lossy_utf16}
use Rattle.encoding_definitions.specs.Utf16.{Part16, Character16, Unpaired, units_of_part16, utf8_of_part16, IsHighSurrogate, ArePaired, ArePartsOf16}
use Rattle.encoding_definitions.specs.FirstScalar.{IsFirstPart16, BeginsLow}
use Rattle.encoding_definitions.proofs.SequenceLemmas.{HasShape, HasOpenShape, HasShape-IsSequence, HasOpenShape-IsIncomplete}
use Rattle.encoding_definitions.proofs.SequenceLemmas.{IsIncomplete-HasOpenShape, second_two, second_more, second_goes_on, third_goes_on}
use Rattle.encoding_definitions.proofs.EncodingLemmas.{IsSequence-encode}
use Rattle.encoding_definitions.proofs.PartsLemmas.{IsRejected, rejected_part, unpaired_part}
use Rattle.encoding_definitions.proofs.Utf16Lemmas.{halves, first_of_parts, tail_paired}
use Rattle.encoding_definitions.proofs.Latin1Lemmas.{latin1_chars}
use Rattle.encoding_kernels.specs.Lengths.{sum_over_suffixes, one_if_at_least, goes_third, continuations, continuations_by, extra_bytes, extra_bytes_by}

-- ---- Latin1
low_end : (least b : ℕ) → b < least → bool_byte (nat_le least b) ≡ 0
low_end least b l = grind (arith, nat_tests)

high_end : (least b : ℕ) → least ≤ b → bool_byte (nat_le least b) ≡ 1
high_end least b l = grind (arith, nat_tests)

latin1_one : (b : ℕ) → b < 256 → length (encode_utf8 b) ≡ 1 + bool_byte (nat_le 0x80 b)
latin1_one b l = grind (arith, nat_tests, length-encode b)

pub latin1_total : (bs : List ℕ) → ((k : ℕ) → slice_index bs k < 256) → length (encode_utf8_all bs) ≡ length bs + sum_over_suffixes (one_if_at_least 0x80) bs
unfolding sum_over_suffixes
latin1_total [] h = refl
latin1_total (b ∷ bs) h = omega (arith, latin1_total bs (λ k. h (suc k)), latin1_one b (h 0), length-append (encode_utf8 b) (encode_utf8_all bs))

-- two bytes that aren't ASCII for each character that isn't
beyond_of_one : (c : ℕ) (rest : List ℕ) → c ≤ 0xFF
    → 2 + sum_over_suffixes (one_if_at_least 0x80) (encode_utf8 c ++ rest) ≡ 2 * length (encode_utf8 c) + sum_over_suffixes (one_if_at_least 0x80) rest
unfolding sum_over_suffixes
beyond_of_one c rest l = elim (cases_lt c 128) [
  | inl p ↦ rw (one c p) (omega (arith, low_end 0x80 c p))
  | inr p ↦ rw (two c p (omega arith)) (omega (arith, high_end 0x80 (192 + c / 64) (omega arith), high_end 0x80 (128 + c % 64) (omega arith)))
]

beyond_total : (cs : List ℕ) → IsLatin1 cs
    → 2 * length cs + sum_over_suffixes (one_if_at_least 0x80) (encode_utf8_all cs) ≡ 2 * length (encode_utf8_all cs)
unfolding sum_over_suffixes
beyond_total [] h = refl
beyond_total (c ∷ cs) h = omega (
  arith,
  beyond_total cs (λ k. h (suc k)),
  beyond_of_one c (encode_utf8_all cs) (h 0),
  length-append (encode_utf8 c)
      (encode_utf8_all cs),
)

pub chars_total : (bs : List ℕ) → IsUtf8Latin1 bs → length (chars bs) + sum_over_suffixes (one_if_at_least 0x80) bs / 2 ≡ length bs
chars_total bs h =
    let text = latin1_chars bs h in
    let total : 2 * length (chars bs) + sum_over_suffixes (one_if_at_least 0x80) bs ≡ 2 * length bs =
    subst (λ xs. 2 * length (chars bs) + sum_over_suffixes (one_if_at_least 0x80) xs ≡ 2 * length xs) text.1 (beyond_total (chars bs) text.0) in
    omega (arith, total)

-- ---- UTF-8: the bytes that continue each byte
low_third : (a c : ℕ) → a < 0xE0 → goes_third a c ≡ false
low_third a c l = grind (arith, nat_tests)

pub stays_third : (a c : ℕ) → (IsContinuation c → ⊥) → goes_third a c ≡ false
stays_third a c n = grind (arith, nat_tests)

joins_none : (a b c : ℕ) → (IsSecond a b → ⊥) → continuations_by a b c ≡ 0
joins_none a b c n = grind (arith, nat_tests)

joins_one : (a b c : ℕ) → IsSecond a b → goes_third a c ≡ false → continuations_by a b c ≡ 1
joins_one a b c s n = grind (arith, nat_tests)

joins_two : (a b c : ℕ) → IsSecond a b → 0xE0 ≤ a → IsContinuation c → continuations_by a b c ≡ 2
joins_two a b c s l t = grind (arith, nat_tests)

-- nothing continues a byte that begins no sequence of several
low_lead : (a b c : ℕ) → a < 0xC2 → continuations_by a b c ≡ 0
low_lead a b c l = joins_none a b c (λ s. omega (arith, s.0))

pub second_low : (a b : ℕ) → IsSecond a b → b < 0xC2
second_low a b s = grind (arith, nat_tests)

shape_total : (x rest : List ℕ) → HasShape x
    → sum_over_suffixes continuations (x ++ rest) + (1 + bool_byte (nat_le 4 (length x))) ≡ length x + sum_over_suffixes continuations rest
unfolding sum_over_suffixes
shape_total [] rest h = absurd h
shape_total (a ∷ []) rest h = omega (arith, low_lead a (slice_index rest 0) (slice_index rest 1) (omega arith))
shape_total (a ∷ b ∷ []) rest (l, m, t) =
    omega (
      arith,
      joins_one a b (slice_index rest 0) (second_two a b l m t) (low_third a (slice_index rest 0) (omega arith)),
      low_lead b (slice_index rest 0)
          (slice_index rest 1) (omega (arith, t.1)),
    )
shape_total (a ∷ b ∷ c ∷ []) rest (l, m, s, t) =
    let second = second_more a b l (omega arith) s in
    omega (
      arith,
      joins_two a b c second l t,
      low_lead b c (slice_index rest 0) (second_low a b second),
      low_lead c (slice_index rest 0) (slice_index rest 1)
          (omega (arith, t.1)),
    )
shape_total (a ∷ b ∷ c ∷ d ∷ []) rest (l, m, s, t, f) =
    let second = second_more a b (omega arith) m s in
    omega (
      arith,
      joins_two a b c second (omega arith) t,
      low_lead b c d (second_low a b second),
      low_lead c d (slice_index rest 0)
          (omega (arith, t.1)),
      low_lead d (slice_index rest 0) (slice_index rest 1) (omega (arith, f.1)),
    )
shape_total (a ∷ b ∷ c ∷ d ∷ e ∷ more) rest h = absurd h

pub units_of_character : (c : ℕ) → IsScalar c → length (encode_utf16 c) ≡ 1 + bool_byte (nat_le 4 (length (encode_utf8 c)))
units_of_character c s = grind (arith, nat_tests, length-encode c)

-- ---- malformed sequences
-- no byte of rest continues the incomplete sequence x
abbrev pub IsRejectedBefore : List ℕ → List ℕ → Type 0
IsRejectedBefore x rest = (y : ℕ) (ys : List ℕ) → rest ≡ y ∷ ys → IsRejected x y

zero_second : (a : ℕ) → IsSecond a 0 → ⊥
zero_second a s = grind (arith, nat_tests)

pub rejected_second : (a : ℕ) (rest : List ℕ) → IsRejectedBefore (a ∷ []) rest → IsSecond a (slice_index rest 0) → ⊥
rejected_second a [] n s = zero_second a s
rejected_second a (y ∷ ys) n s = n y ys refl (second_goes_on a y s)

pub rejected_third : (a b : ℕ) (rest : List ℕ) → HasOpenShape (a ∷ b ∷ []) → IsRejectedBefore (a ∷ b ∷ []) rest → IsContinuation (slice_index rest 0) → ⊥
rejected_third a b [] h n t = omega (arith, t.0)
rejected_third a b (y ∷ ys) h n t = n y ys refl (third_goes_on a b y h t)

open_total : (x rest : List ℕ) → HasOpenShape x → IsRejectedBefore x rest
    → sum_over_suffixes continuations (x ++ rest) + 1 ≡ length x + sum_over_suffixes continuations rest
unfolding sum_over_suffixes
open_total [] rest h n = absurd h
open_total (a ∷ []) rest h n = omega (arith, joins_none a (slice_index rest 0) (slice_index rest 1) (rejected_second a rest n))
open_total (a ∷ b ∷ []) rest h n =
    let second = second_more a b h.0 h.1 h.2 in
    omega (
      arith,
      joins_one a b (slice_index rest 0) second (stays_third a (slice_index rest 0) (rejected_third a b rest h n)),
      low_lead b (slice_index rest 0)
          (slice_index rest 1) (second_low a b second),
    )
open_total (a ∷ b ∷ c ∷ []) rest h n =
    let second = second_more a b (omega (arith, h.0)) h.1 h.2 in
    omega (
      arith,
      joins_two a b c second (omega (arith, h.0)) h.3,
      low_lead b c (slice_index rest 0) (second_low a b second),
      low_lead c (slice_index rest 0)
          (slice_index rest 1) (omega (arith, h.3.1)),
    )
open_total (a ∷ b ∷ c ∷ d ∷ more) rest h n = absurd h

unpaired_total : (b : ℕ) (rest : List ℕ) → IsNeverLeading b → sum_over_suffixes continuations (b ∷ rest) ≡ sum_over_suffixes continuations rest
unfolding sum_over_suffixes
unpaired_total b rest n =
    omega (arith, joins_none b (slice_index rest 0) (slice_index rest 1) (λ s. n (inr (IsIncomplete-HasOpenShape (b ∷ []) (s.0, s.1)))))

pub rejected_after : (bs x rest : List ℕ) → BeginsWithNoCharacter bs → IsLongestIncomplete bs x rest → IsRejectedBefore x rest
rejected_after bs x rest n l y ys e = rejected_part bs x y ys n (subst (λ r. IsLongestIncomplete bs x r) e l)

-- ---- the first part, and all
part_total : (bs : List ℕ) (p : Part) (rest : List ℕ) → IsFirstPart bs p rest
    → sum_over_suffixes continuations bs + (length rest + length (encode_utf16 (lossy_scalar p))) ≡ length bs + sum_over_suffixes continuations rest
part_total bs (Character c) rest (s, e) =
    let sum = shape_total (encode_utf8 c) rest (HasShape-IsSequence (encode_utf8 c) (IsSequence-encode c s)) in
    rw e (omega (arith, sum, units_of_character c s, length-append (encode_utf8 c) rest))
part_total bs (IllFormed x) rest (n, inl l) =
    let sum = open_total x rest (HasOpenShape-IsIncomplete x l.incomplete) (rejected_after bs x rest n l) in
    rw l.whole (omega (arith, sum, ap length (one_unit 0xFFFD (omega arith)), length-append x rest))
part_total bs (IllFormed x) rest (n, inr l) =
    let unpaired = unpaired_part bs x rest n l in
    let whole : bs ≡ unpaired.0 ∷ rest = l.whole ∙ ap (λ xs. xs ++ rest) unpaired.1 in
    rw whole (omega (arith, unpaired_total unpaired.0 rest unpaired.2, ap length (one_unit 0xFFFD (omega arith))))

pub utf16_total : (bs : List ℕ) (ps : List Part) → ArePartsOf bs ps → sum_over_suffixes continuations bs + length (lossy_utf16 ps) ≡ length bs
unfolding sum_over_suffixes
utf16_total bs [] e = rw e refl
utf16_total bs (p ∷ ps) (after, f, more) =
    omega (arith, utf16_total after ps more, part_total bs p after f, length-append (encode_utf16 (lossy_scalar p)) (lossy_utf16 ps))

-- ---- UTF-16
size : ℕ → ℕ
size u = cond (nat_le 0x800 u) 2 (cond (nat_le 0x80 u) 1 0)

pair_beyond : (u v : ℕ) → IsPair u v → extra_bytes_by u v ≡ 0
pair_beyond u v p = grind (arith, nat_tests)

len_low : (c : ℕ) → c < 0x10000 → len_utf8 c ≡ 1 + size c
unfolding size
len_low c l = grind (arith, nat_tests)

single_extra : (u v : ℕ) → (IsPair u v → ⊥) → extra_bytes_by u v ≡ size u
unfolding size
single_extra u v n = grind (arith, nat_tests)

size_surrogate : (u : ℕ) → 0x800 ≤ u → size u ≡ 2
unfolding size
size_surrogate u l = grind (arith, nat_tests)

pub not_high : (c v : ℕ) → IsScalar c → c < 0x10000 → IsPair c v → ⊥
not_high c v s l p = elim (scalar_cases c s) [ inl h ↦ omega (arith, p.0, h) | inr h ↦ omega (arith, p.1, h.0) ]

pub not_low : (u v w : ℕ) → IsPair u v → IsPair v w → ⊥
not_low u v w p q = omega (arith, p.2, q.1)

pub unpaired_apart : (u : ℕ) (rest : List ℕ) → (IsHighSurrogate u → BeginsLow rest → ⊥) → IsPair u (slice_index rest 0) → ⊥
unpaired_apart u [] n p = omega (arith, p.2)
unpaired_apart u (v ∷ vs) n p = n (p.0, omega (arith, p.1)) (p.2, omega (arith, p.3))

four_long : (c : ℕ) → 0x10000 ≤ c → len_utf8 c ≡ 4
four_long c l = grind (arith, nat_tests)

part16_total : (us : List ℕ) (p : Part16) (rest : List ℕ) → IsFirstPart16 us p rest
    → length us + sum_over_suffixes extra_bytes us ≡ length (utf8_of_part16 p) + (length rest + sum_over_suffixes extra_bytes rest)
unfolding sum_over_suffixes
part16_total us (Character16 c) rest (s, e) = elim (cases_lt c 0x10000) [
  | inl l ↦ let whole : us ≡ c ∷ rest = e ∙ ap (λ xs. xs ++ rest) (one_unit c l) in
      rw whole (omega (arith, single_extra c (slice_index rest 0) (not_high c (slice_index rest 0) s l), len_low c l, length-encode c))
  | inr l ↦ let two = halves c l s in
      let u = two.0 in
      let v = two.1 in
      let whole : us ≡ u ∷ v ∷ rest = e ∙ ap (λ xs. xs ++ rest) two.3 in
      rw whole
      (omega (
        arith,
        pair_beyond u v two.2,
        single_extra v (slice_index rest 0) (not_low u v (slice_index rest 0) two.2),
        size_surrogate v
            (omega (arith, two.2.2)),
        four_long c l,
        length-encode c,
      ))
]
part16_total us (Unpaired u) rest (s, e, n) =
    let from : 0x800 ≤ u = elim s [ inl h ↦ omega (arith, h.0) | inr h ↦ omega (arith, h.0) ] in
    rw e (omega (arith, single_extra u (slice_index rest 0) (unpaired_apart u rest n), size_surrogate u from, length-encode 0xFFFD))

pub utf8_total : (us : List ℕ) (ps : List Part16) → ArePartsOf16 us ps → length (flat_map utf8_of_part16 ps) ≡ length us + sum_over_suffixes extra_bytes us
unfolding sum_over_suffixes
utf8_total us ps h = rw (sym h.1) (by_parts ps h.0)
  where
    by_parts : (ps : List Part16) → ArePaired ps → length (flat_map utf8_of_part16 ps) ≡ length (flat_map units_of_part16 ps) + sum_over_suffixes extra_bytes
        (flat_map units_of_part16 ps)
    by_parts [] h = refl
    by_parts (p ∷ ps) h =
        omega (
          arith,
          by_parts ps (tail_paired p ps h),
          part16_total (flat_map units_of_part16 (p ∷ ps)) p (flat_map units_of_part16 ps)
              (first_of_parts p ps h),
          length-append (utf8_of_part16 p) (flat_map utf8_of_part16 ps),
        )
