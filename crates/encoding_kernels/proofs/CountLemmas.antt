-- The number of parts of a text, by its characters of four bytes and by its surrogate pairs. And the length of the
-- repaired text of bytes: three for each part and one more for a character of four bytes, less what those of one and two
-- bytes have below three.
use Rattle.std.proofs.Common.{◌≡◌, ℕ, ◌+◌, ◌<◌, ◌≤◌, inl, inr, Bool, not, cond, ◌&&◌, eqb, leb, ltb, bit_and, List, [], ◌∷◌, ◌++◌, length}
use Rattle.std.proofs.Common.{drop, map, replicate, slice_index, nat_le, Fits, w8, w16, encode_utf8, refl, ap, ◌∙◌, arith, subst, ◌*◌}
use Rattle.std.specs.Simd.Lanes.{Each1, sel_l, top, zip2}
use Rattle.std.specs.Char.Escape.{encode_utf16}
use Rattle.std.specs.List.{flat_map}
use Rattle.std.proofs.lemmas.Bool.{cases_lt}
use Rattle.std.proofs.lemmas.Bool.Decides.{nat_tests}
use Rattle.std.proofs.lemmas.List.{get_or-drop, length-append}
use Rattle.std.proofs.lemmas.Simd.{Each1-get_or, Each1-from_get_or}
use Rattle.std.proofs.str.Utf16.{one_unit, IsPair}
use mir.Val.{bool_byte}
use Rattle.encoding_definitions.specs.Sequence.{IsContinuation, IsSecond, IsNeverLeading}
use Rattle.encoding_definitions.specs.Parts.{Part, Character, IllFormed, ArePartsOf, IsFirstPart, lossy_scalar, lossy_utf16, lossy_utf8}
use Rattle.encoding_definitions.specs.Utf16.{Part16, Character16, Unpaired, units_of_part16, ArePaired, ArePartsOf16}
use Rattle.encoding_definitions.specs.FirstScalar.{IsFirstPart16}
use Rattle.encoding_definitions.proofs.SequenceLemmas.{HasShape, HasOpenShape, HasShape-IsSequence, IsSequence-HasShape}
use Rattle.encoding_definitions.proofs.SequenceLemmas.{HasOpenShape-IsIncomplete, IsIncomplete-HasOpenShape, second_more}
use Rattle.encoding_definitions.proofs.EncodingLemmas.{IsSequence-encode}
use Rattle.encoding_definitions.proofs.PartsLemmas.{unpaired_part}
use Rattle.encoding_definitions.proofs.Utf16Lemmas.{halves, first_of_parts, tail_paired}
use Rattle.encoding_definitions.proofs.Latin1Lemmas.{at_drop_start}
use Rattle.encoding_kernels.specs.Scans.{HasLanes}
use Rattle.encoding_kernels.specs.Lengths.{sum_over_suffixes, goes_second, is_surrogate_pair}
use Rattle.encoding_kernels.specs.Counts.{is_four_bytes, begins_four_bytes, begins_pair, bool_few}
use Rattle.encoding_kernels.proofs.VectorLemmas.{HasLanes-itself, HasLanes_same, HasLanes-splat, HasLanes-zip2, compared}
use Rattle.encoding_kernels.proofs.MaskLemmas.{chosen, tests_and, tests_of}
use Rattle.encoding_kernels.proofs.SumLemmas.{one_or_none, below_is, pair_is, skipped_below}
use Rattle.encoding_kernels.proofs.LengthLemmas.{units_of_character, IsRejectedBefore, rejected_second, rejected_third}
use Rattle.encoding_kernels.proofs.LengthLemmas.{rejected_after, second_low, not_high, not_low, unpaired_apart, utf16_total}
use Rattle.std.specs.Prelude.{Option, Some, None, SomeIff, ◌-◌, ◌^◌}
use Rattle.std.specs.Char.{IsScalar}
use Rattle.std.proofs.lemmas.Str.{length-encode, len_utf8_bounds}
use Rattle.encoding_kernels.specs.RepairedLengths.{bytes_below_three, bytes_below_three_by}

-- ---- the lanes
abbrev pub four_lane : ℕ → ℕ → Bool
four_lane a b = (((leb 0xF0 a && leb a 0xF4) && not (eqb a (cond (ltb b 0x90) 0xF0 0xF4))) && leb 0x80 b) && ltb b 0xC0

four_lane_is : (a b : ℕ) → four_lane a b ≡ (goes_second a b && nat_le 0xF0 a)
four_lane_is a b = grind (arith, nat_tests)

pub whole_lane : (a b c d : ℕ) → cond ((four_lane a b && (leb 0x80 c && ltb c 0xC0)) && (leb 0x80 d && ltb d 0xC0)) 1 0 ≡ bool_byte (is_four_bytes a b c d)
whole_lane a b c d =
    one_or_none _ ∙ (λ i. bool_byte ((four_lane_is a b i && (leb 0x80 c && below_is c i)) && (leb 0x80 d && below_is d i)))

-- the selection of one for the first unit of a pair
abbrev pub pair_vector : ℕ → List ℕ → List ℕ → List ℕ
pair_vector n us vs =
    let high = zip2 (compared w16 eqb) (zip2 bit_and us (replicate n 0xFC00)) (replicate n 0xD800) in
    let low = zip2 (compared w16 eqb) (zip2 bit_and vs (replicate n 0xFC00)) (replicate n 0xDC00) in
    sel_l (map (top 15) (zip2 bit_and high low)) (replicate n 1) (replicate n 0)

module _ (n : ℕ) (us vs : List ℕ) (p : length us ≡ n) (q : length vs ≡ n) (fit : Each1 (Fits w16) us) (fits : Each1 (Fits w16) vs) where
  pub pairs_are : HasLanes n (pair_vector n us vs) (λ k. bool_byte (is_surrogate_pair (slice_index us k) (slice_index vs k)))
  pairs_are =
      let high = tests_of w16 eqb (HasLanes-zip2 bit_and (HasLanes-itself n us p) (HasLanes-splat n 0xFC00)) (HasLanes-splat n 0xD800) in
      let low = tests_of w16 eqb (HasLanes-zip2 bit_and (HasLanes-itself n vs q) (HasLanes-splat n 0xFC00)) (HasLanes-splat n 0xDC00) in
      HasLanes_same (chosen 1 0 (tests_and high low)) (λ k l.
      one_or_none _
      ∙ ap bool_byte (pair_is (slice_index us k) (slice_index vs k) (Each1-get_or (Fits w16) us k 0 (omega arith) fit).fits
      (Each1-get_or (Fits w16) vs k 0 (omega arith) fits).fits))

  pub pairs_fit : Each1 (Fits w8) (pair_vector n us vs)
  pairs_fit = Each1-from_get_or (Fits w8) (pair_vector n us vs) 0
      (λ k l. record {
        fits =
            omega (arith, pairs_are.each k (omega (arith, pairs_are.long)), bool_few (is_surrogate_pair (slice_index us k) (slice_index vs k)));
      })

-- ---- the terms of an index
pub term_four : (xs : List ℕ) (i : ℕ)
    → begins_four_bytes (drop i xs) ≡ bool_byte (is_four_bytes (slice_index xs i) (slice_index xs (i + 1)) (slice_index xs (i + 2)) (slice_index xs (i + 3)))
term_four xs i = λ k. bool_byte (is_four_bytes (at_drop_start xs i k) (get_or-drop i xs 1 0 k) (get_or-drop i xs 2 0 k) (get_or-drop i xs 3 0 k))

pub term_pair : (xs : List ℕ) (i : ℕ) → begins_pair (drop i xs) ≡ bool_byte (is_surrogate_pair (slice_index xs i) (slice_index xs (i + 1)))
term_pair xs i = λ k. bool_byte (is_surrogate_pair (at_drop_start xs i k) (get_or-drop i xs 1 0 k))

low_lead : (a b c d : ℕ) → a < 0xF0 → bool_byte (is_four_bytes a b c d) ≡ 0
low_lead a b c d l = grind (arith, nat_tests)

low_unit : (u v : ℕ) → u < 0xD800 → bool_byte (is_surrogate_pair u v) ≡ 0
low_unit u v l = grind (arith, nat_tests)

pub skipped_fours : (xs : List ℕ) (from to : ℕ) → from ≤ to → to ≤ length xs
    → ((k : ℕ) → from ≤ k → k < to → slice_index xs k < 0xF0)
    → sum_over_suffixes begins_four_bytes (drop to xs) ≡ sum_over_suffixes begins_four_bytes (drop from xs)
skipped_fours xs = skipped_below 0xF0 begins_four_bytes xs (λ ys l. low_lead (slice_index ys 0) (slice_index ys 1) (slice_index ys 2) (slice_index ys 3) l)

pub skipped_pairs : (us : List ℕ) (from to : ℕ) → from ≤ to → to ≤ length us
    → ((k : ℕ) → from ≤ k → k < to → slice_index us k < 0xD800) → sum_over_suffixes begins_pair (drop to us) ≡ sum_over_suffixes begins_pair (drop from us)
skipped_pairs us = skipped_below 0xD800 begins_pair us (λ vs l. low_unit (slice_index vs 0) (slice_index vs 1) l)

-- ---- UTF-8: the characters of four bytes
no_second : (a b c d : ℕ) → (IsSecond a b → ⊥) → bool_byte (is_four_bytes a b c d) ≡ 0
no_second a b c d n = grind (arith, nat_tests)

no_third : (a b c d : ℕ) → (IsContinuation c → ⊥) → bool_byte (is_four_bytes a b c d) ≡ 0
no_third a b c d n = grind (arith, nat_tests)

no_fourth : (a b c d : ℕ) → (IsContinuation d → ⊥) → bool_byte (is_four_bytes a b c d) ≡ 0
no_fourth a b c d n = grind (arith, nat_tests)

four_there : (a b c d : ℕ) → 0xF0 ≤ a → IsSecond a b → IsContinuation c → IsContinuation d → bool_byte (is_four_bytes a b c d) ≡ 1
four_there a b c d l s t f = grind (arith, nat_tests)

low_first : (a : ℕ) (rest : List ℕ) → a < 0xF0 → sum_over_suffixes begins_four_bytes (a ∷ rest) ≡ sum_over_suffixes begins_four_bytes rest
unfolding sum_over_suffixes
low_first a rest l = omega (arith, low_lead a (slice_index rest 0) (slice_index rest 1) (slice_index rest 2) l)

shape_fours : (x rest : List ℕ) → HasShape x
    → sum_over_suffixes begins_four_bytes (x ++ rest) ≡ bool_byte (nat_le 4 (length x)) + sum_over_suffixes begins_four_bytes rest
unfolding sum_over_suffixes
shape_fours [] rest h = absurd h
shape_fours (a ∷ []) rest h = omega (arith, low_first a rest (omega arith))
shape_fours (a ∷ b ∷ []) rest (l, m, t) = omega (arith, low_first a (b ∷ rest) (omega arith), low_first b rest (omega (arith, t.1)))
shape_fours (a ∷ b ∷ c ∷ []) rest (l, m, s, t) =
    let low = second_low a b (second_more a b l (omega arith) s) in
    omega (arith, low_first a (b ∷ c ∷ rest) (omega arith), low_first b (c ∷ rest) (omega (arith, low)), low_first c rest (omega (arith, t.1)))
shape_fours (a ∷ b ∷ c ∷ d ∷ []) rest (l, m, s, t, f) =
    let second = second_more a b (omega arith) m s in
    omega (
      arith,
      four_there a b c d l second t f,
      low_first b (c ∷ d ∷ rest) (omega (arith, second_low a b second)),
      low_first c (d ∷ rest)
          (omega (arith, t.1)),
      low_first d rest (omega (arith, f.1)),
    )
shape_fours (a ∷ b ∷ c ∷ d ∷ e ∷ more) rest h = absurd h

rejected_fourth : (a b c : ℕ) (rest : List ℕ) → HasOpenShape (a ∷ b ∷ c ∷ []) → IsRejectedBefore (a ∷ b ∷ c ∷ []) rest → IsContinuation (slice_index rest 0) → ⊥
rejected_fourth a b c [] h n f = omega (arith, f.0)
rejected_fourth a b c (y ∷ ys) h n f = n y ys refl (inl (IsSequence-HasShape (a ∷ b ∷ c ∷ y ∷ []) (h.0, h.1, h.2, h.3, f)))

open_fours : (x rest : List ℕ) → HasOpenShape x → IsRejectedBefore x rest
    → sum_over_suffixes begins_four_bytes (x ++ rest) ≡ sum_over_suffixes begins_four_bytes rest
unfolding sum_over_suffixes
open_fours [] rest h n = absurd h
open_fours (a ∷ []) rest h n = omega (arith, no_second a (slice_index rest 0) (slice_index rest 1) (slice_index rest 2) (rejected_second a rest n))
open_fours (a ∷ b ∷ []) rest h n =
    let low = second_low a b (second_more a b h.0 h.1 h.2) in
    omega (arith, no_third a b (slice_index rest 0) (slice_index rest 1) (rejected_third a b rest h n), low_first b rest (omega (arith, low)))
open_fours (a ∷ b ∷ c ∷ []) rest h n =
    let low = second_low a b (second_more a b (omega (arith, h.0)) h.1 h.2) in
    omega (
      arith,
      no_fourth a b c (slice_index rest 0) (rejected_fourth a b c rest h n),
      low_first b (c ∷ rest) (omega (arith, low)),
      low_first c rest
          (omega (arith, h.3.1)),
    )
open_fours (a ∷ b ∷ c ∷ d ∷ more) rest h n = absurd h

single_fours : (b : ℕ) (rest : List ℕ) → IsNeverLeading b → sum_over_suffixes begins_four_bytes (b ∷ rest) ≡ sum_over_suffixes begins_four_bytes rest
unfolding sum_over_suffixes
single_fours b rest n =
    omega (arith, no_second b (slice_index rest 0) (slice_index rest 1) (slice_index rest 2) (λ s. n (inr (IsIncomplete-HasOpenShape (b ∷ []) (s.0, s.1)))))

part_fours : (bs : List ℕ) (p : Part) (rest : List ℕ) → IsFirstPart bs p rest
    → 1 + sum_over_suffixes begins_four_bytes bs ≡ length (encode_utf16 (lossy_scalar p)) + sum_over_suffixes begins_four_bytes rest
part_fours bs (Character c) rest (s, e) =
    let fours = shape_fours (encode_utf8 c) rest (HasShape-IsSequence (encode_utf8 c) (IsSequence-encode c s)) in
    rw e (omega (arith, fours, units_of_character c s))
part_fours bs (IllFormed x) rest (n, inl l) =
    let fours = open_fours x rest (HasOpenShape-IsIncomplete x l.incomplete) (rejected_after bs x rest n l) in
    rw l.whole (omega (arith, fours, ap length (one_unit 0xFFFD (omega arith))))
part_fours bs (IllFormed x) rest (n, inr l) =
    let single = unpaired_part bs x rest n l in
    let whole : bs ≡ single.0 ∷ rest = l.whole ∙ ap (λ xs. xs ++ rest) single.1 in
    rw whole (omega (arith, single_fours single.0 rest single.2, ap length (one_unit 0xFFFD (omega arith))))

-- each part has a code unit, and a character of four bytes has two
pub parts_total : (bs : List ℕ) (ps : List Part) → ArePartsOf bs ps → length ps + sum_over_suffixes begins_four_bytes bs ≡ length (lossy_utf16 ps)
unfolding sum_over_suffixes
parts_total bs [] e = rw e refl
parts_total bs (p ∷ ps) (after, f, more) =
    omega (arith, parts_total after ps more, part_fours bs p after f, length-append (encode_utf16 (lossy_scalar p)) (lossy_utf16 ps))

-- ---- UTF-16: the surrogate pairs
pair_there : (u v : ℕ) → IsPair u v → bool_byte (is_surrogate_pair u v) ≡ 1
pair_there u v p = grind (arith, nat_tests)

no_pair : (u v : ℕ) → (IsPair u v → ⊥) → bool_byte (is_surrogate_pair u v) ≡ 0
no_pair u v n = grind (arith, nat_tests)

part16_pairs : (us : List ℕ) (p : Part16) (rest : List ℕ) → IsFirstPart16 us p rest
    → 1 + sum_over_suffixes begins_pair us + length rest ≡ length us + sum_over_suffixes begins_pair rest
unfolding sum_over_suffixes
part16_pairs us (Character16 c) rest (s, e) = elim (cases_lt c 0x10000) [
  | inl l ↦ let whole : us ≡ c ∷ rest = e ∙ ap (λ xs. xs ++ rest) (one_unit c l) in
      rw whole (omega (arith, no_pair c (slice_index rest 0) (not_high c (slice_index rest 0) s l)))
  | inr l ↦ let two = halves c l s in
      let whole : us ≡ two.0 ∷ two.1 ∷ rest = e ∙ ap (λ xs. xs ++ rest) two.3 in
      rw whole (omega (arith, pair_there two.0 two.1 two.2, no_pair two.1 (slice_index rest 0) (not_low two.0 two.1 (slice_index rest 0) two.2)))
]
part16_pairs us (Unpaired u) rest (s, e, n) = rw e (omega (arith, no_pair u (slice_index rest 0) (unpaired_apart u rest n)))

-- each part has a code unit, and one with a pair has two
pub parts16_total : (us : List ℕ) (ps : List Part16) → ArePartsOf16 us ps → length ps + sum_over_suffixes begins_pair us ≡ length us
unfolding sum_over_suffixes
parts16_total us ps h = subst (λ xs. length ps + sum_over_suffixes begins_pair xs ≡ length xs) h.1 (by_parts ps h.0)
  where
    by_parts : (ps : List Part16) → ArePaired ps
        → length ps + sum_over_suffixes begins_pair (flat_map units_of_part16 ps) ≡ length (flat_map units_of_part16 ps)
    by_parts [] h = refl
    by_parts (p ∷ ps) h =
        omega (
          arith,
          by_parts ps (tail_paired p ps h),
          part16_pairs (flat_map units_of_part16 (p ∷ ps)) p (flat_map units_of_part16 ps)
              (first_of_parts p ps h),
        )

pub term_below_three : (xs : List ℕ) (i : ℕ) → bytes_below_three (drop i xs) ≡ bytes_below_three_by (slice_index xs i) (slice_index xs (i + 1))
term_below_three xs i = λ k. bytes_below_three_by (at_drop_start xs i k) (get_or-drop i xs 1 0 k)

-- ---- the first byte
two_below : (a b : ℕ) → a ≤ 0x7F → bytes_below_three_by a b ≡ 2
two_below a b l = grind (arith, nat_tests)

one_below : (a b : ℕ) → 0xC2 ≤ a → a ≤ 0xDF → IsContinuation b → bytes_below_three_by a b ≡ 1
one_below a b l m t = grind (arith, nat_tests)

-- the byte is neither ASCII nor the first of a sequence of two bytes
abbrev IsOther : ℕ → Type 0
IsOther a = (0x80 ≤ a) × (0xC2 ≤ a → 0xE0 ≤ a)

none_below : (a b : ℕ) → IsOther a → bytes_below_three_by a b ≡ 0
none_below a b (l, m) = grind (arith, nat_tests)

none_below_second : (a b : ℕ) → 0xC2 ≤ a → (IsSecond a b → ⊥) → bytes_below_three_by a b ≡ 0
none_below_second a b l n = grind (arith, nat_tests)

other_second : (a b : ℕ) → IsSecond a b → IsOther b
other_second a b s = (grind (arith, nat_tests), λ l. absurd (omega (arith, l, second_low a b s)))

other_continuation : (b : ℕ) → IsContinuation b → IsOther b
other_continuation b t = (t.0, λ l. absurd (omega (arith, l, t.1)))

high_lead : (a : ℕ) → 0xE0 ≤ a → IsOther a
high_lead a l = (omega arith, λ m. l)

other_first : (a : ℕ) (rest : List ℕ) → IsOther a → sum_over_suffixes bytes_below_three (a ∷ rest) ≡ sum_over_suffixes bytes_below_three rest
unfolding sum_over_suffixes
other_first a rest l = omega (arith, none_below a (slice_index rest 0) l)

-- ---- the first part
-- how many bytes below three the character has
below : ℕ → ℕ
below n = cond (nat_le 3 n) 0 (cond (nat_le 2 n) 1 2)

shape_below : (x rest : List ℕ) → HasShape x → sum_over_suffixes bytes_below_three (x ++ rest) ≡ below (length x) + sum_over_suffixes bytes_below_three rest
unfolding sum_over_suffixes below
shape_below [] rest h = absurd h
shape_below (a ∷ []) rest h = omega (arith, two_below a (slice_index rest 0) h)
shape_below (a ∷ b ∷ []) rest (l, m, t) = omega (arith, one_below a b l m t, other_first b rest (other_continuation b t))
shape_below (a ∷ b ∷ c ∷ []) rest (l, m, s, t) =
    let second = second_more a b l (omega arith) s in
    omega (arith, other_first a (b ∷ c ∷ rest) (high_lead a l), other_first b (c ∷ rest) (other_second a b second), other_first c rest (other_continuation c t))
shape_below (a ∷ b ∷ c ∷ d ∷ []) rest (l, m, s, t, f) =
    let second = second_more a b (omega arith) m s in
    omega (
      arith,
      other_first a (b ∷ c ∷ d ∷ rest) (high_lead a (omega arith)),
      other_first b (c ∷ d ∷ rest) (other_second a b second),
      other_first c (d ∷ rest)
          (other_continuation c t),
      other_first d rest (other_continuation d f),
    )
shape_below (a ∷ b ∷ c ∷ d ∷ e ∷ more) rest h = absurd h

open_below : (x rest : List ℕ) → HasOpenShape x → IsRejectedBefore x rest
    → sum_over_suffixes bytes_below_three (x ++ rest) ≡ sum_over_suffixes bytes_below_three rest
unfolding sum_over_suffixes
open_below [] rest h n = absurd h
open_below (a ∷ []) rest h n = omega (arith, none_below_second a (slice_index rest 0) h.0 (rejected_second a rest n))
open_below (a ∷ b ∷ []) rest h n =
    omega (arith, other_first a (b ∷ rest) (high_lead a h.0), other_first b rest (other_second a b (second_more a b h.0 h.1 h.2)))
open_below (a ∷ b ∷ c ∷ []) rest h n =
    let second = second_more a b (omega (arith, h.0)) h.1 h.2 in
    omega (
      arith,
      other_first a (b ∷ c ∷ rest) (high_lead a (omega (arith, h.0))),
      other_first b (c ∷ rest) (other_second a b second),
      other_first c rest
          (other_continuation c h.3),
    )
open_below (a ∷ b ∷ c ∷ d ∷ more) rest h n = absurd h

other_single : (b : ℕ) → IsNeverLeading b → IsOther b
other_single b n = (from, up)
  where
    from : 0x80 ≤ b
    from = elim (cases_lt b 0x80) [ inl l ↦ absurd (n (inl (IsSequence-HasShape (b ∷ []) (omega arith)))) | inr l ↦ l ]

    up : 0xC2 ≤ b → 0xE0 ≤ b
    up l = elim (cases_lt b 0xE0) [ inl m ↦ absurd (n (inr (IsIncomplete-HasOpenShape (b ∷ []) (l, omega arith)))) | inr m ↦ m ]

-- the bytes of a character, and its code units
same_sum : (n : ℕ) → 0 < n → n ≤ 4 → n + below n ≡ 1 + bool_byte (nat_le 4 n) + 2
unfolding below
same_sum n l m = grind (arith, nat_tests)

sizes : (c : ℕ) → IsScalar c → length (encode_utf8 c) + below (length (encode_utf8 c)) ≡ length (encode_utf16 c) + 2
sizes c s =
    let bounds = len_utf8_bounds c in
    omega (arith, same_sum (length (encode_utf8 c)) (omega (arith, length-encode c)) (omega (arith, length-encode c)), units_of_character c s)

replacement_sizes : length (encode_utf8 0xFFFD) ≡ length (encode_utf16 0xFFFD) + 2
replacement_sizes = omega (arith, ap length (one_unit 0xFFFD (omega arith)), length-encode 0xFFFD)

part_below : (bs : List ℕ) (p : Part) (rest : List ℕ) → IsFirstPart bs p rest
    → length (encode_utf8 (lossy_scalar p)) + sum_over_suffixes bytes_below_three bs ≡ length
    (encode_utf16 (lossy_scalar p)) + (2 + sum_over_suffixes bytes_below_three rest)
part_below bs (Character c) rest (s, e) =
    rw e (omega (arith, shape_below (encode_utf8 c) rest (HasShape-IsSequence (encode_utf8 c) (IsSequence-encode c s)), sizes c s))
part_below bs (IllFormed x) rest (n, inl l) =
    rw l.whole (omega (arith, open_below x rest (HasOpenShape-IsIncomplete x l.incomplete) (rejected_after bs x rest n l), replacement_sizes))
part_below bs (IllFormed x) rest (n, inr l) =
    let single = unpaired_part bs x rest n l in
    let whole : bs ≡ single.0 ∷ rest = l.whole ∙ ap (λ xs. xs ++ rest) single.1 in
    rw whole (omega (arith, other_first single.0 rest (other_single single.0 single.2), replacement_sizes))

-- no part has more code units than bytes
not_more : (n : ℕ) → 0 < n → 1 + bool_byte (nat_le 4 n) ≤ n
not_more n l = grind (arith, nat_tests)

part_most : (bs : List ℕ) (p : Part) (rest : List ℕ) → IsFirstPart bs p rest → length (encode_utf16 (lossy_scalar p)) ≤ length (encode_utf8 (lossy_scalar p))
part_most bs (Character c) rest (s, e) =
    let bounds = len_utf8_bounds c in
    omega (arith, not_more (length (encode_utf8 c)) (omega (arith, length-encode c)), units_of_character c s)
part_most bs (IllFormed x) rest f = omega (arith, replacement_sizes)

pub repaired_total : (bs : List ℕ) (ps : List Part) → ArePartsOf bs ps
    → (length (lossy_utf8 ps) + sum_over_suffixes bytes_below_three bs ≡ length (lossy_utf16 ps) + 2 * length ps)
    × (length (lossy_utf16 ps) ≤ length (lossy_utf8 ps))
unfolding sum_over_suffixes
repaired_total bs [] e = (rw e refl, omega arith)
repaired_total bs (p ∷ ps) (after, f, more) =
    let rest = repaired_total after ps more in
    let bytes = length-append (encode_utf8 (lossy_scalar p)) (lossy_utf8 ps) in
    let units = length-append (encode_utf16 (lossy_scalar p)) (lossy_utf16 ps) in
    (omega (arith, rest.0, part_below bs p after f, bytes, units), omega (arith, rest.1, part_most bs p after f, bytes, units))

-- the same by the parts and the characters of four bytes
pub repaired_sum : (bs : List ℕ) (ps : List Part) → ArePartsOf bs ps
    → (length (lossy_utf8 ps) + sum_over_suffixes bytes_below_three bs ≡ length ps + sum_over_suffixes begins_four_bytes bs + 2 * length ps)
    × (sum_over_suffixes bytes_below_three bs ≤ 2 * length ps)
repaired_sum bs ps are =
    let total = repaired_total bs ps are in
    (omega (arith, total.0, parts_total bs ps are), omega (arith, total.0, total.1))

-- no more parts than bytes, also with another one for each character of four bytes
pub parts_most : (bs : List ℕ) (ps : List Part) → ArePartsOf bs ps
    → (length ps ≤ length bs) × (length ps + sum_over_suffixes begins_four_bytes bs ≤ length bs)
parts_most bs ps are =
    let units = utf16_total bs ps are in
    (omega (arith, units, parts_total bs ps are), omega (arith, units, parts_total bs ps are))

pub same_length : (r : Option ℕ) (n m : ℕ) → n ≡ m → SomeIff r (n < 2 ^ 64) n → SomeIff r (m ≤ 2 ^ 64 - 1) m
same_length None n m e h = λ l. h (omega arith)
same_length (Some k) n m e (l, is) = (omega arith, is ∙ e)
