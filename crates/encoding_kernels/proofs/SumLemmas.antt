-- Lengths as sums over the indices of a list: one more index, the lanes of a vector, ASCII, whose terms are zero, and the
-- terms of each encoding, lane by lane.
use Rattle.std.proofs.Common.{Bool, ◌≡◌, ℕ, zero, suc, ◌+◌, ◌-◌, ◌*◌, ◌^◌, ◌<◌, ◌≤◌, inl, inr, List, [], ◌∷◌, ◌++◌, length, drop, get_or, slice_index}
use Rattle.std.proofs.Common.{replicate, Fits, w8, cond, ltb, nat_le, refl, sym, ap, ◌∙◌, arith, length-drop, ◌%◌, true, false, not, ◌&&◌, eqb, leb, map}
use Rattle.std.proofs.Common.{bit_and, w16}
use Rattle.std.specs.Simd.Lanes.{Each1, Each2, zip2, chunk, sum_l, sel_l, top}
use Rattle.std.proofs.Math.Nat.{add-mul, mul-le-mul_right}
use Rattle.std.proofs.lemmas.Bool.{cases_lt, cond-true, cond-false, le-ltb, lt-ltb, false≢true}
use Rattle.std.proofs.lemmas.Bool.Decides.{nat_tests}
use Rattle.std.proofs.lemmas.List.{get_or-drop, get_or_append_left, get_or-append_right}
use Rattle.std.proofs.lemmas.Simd.{get_or-chunk, get_or-replicate, Each1-from_get_or, Each1-zip2, Each2-of, sum_bound, bytes_below, Each1-get_or}
use Rattle.encoding_kernels.specs.declared.simd.sum.TheConstants.{BOUNDS}
use Rattle.encoding_kernels.specs.Scans.{HasLanes}
use mir.Val.{bool_byte}
use Rattle.encoding_kernels.specs.Lengths.{sum_over_suffixes, one_if_at_least, continuations, continuations_by, extra_bytes}
use Rattle.encoding_kernels.specs.Lengths.{extra_bytes_by, goes_second, is_surrogate_pair, extra_bytes_by_few}
use Rattle.encoding_definitions.specs.Utf16.{IsHighSurrogate, IsLowSurrogate}
use Rattle.encoding_kernels.proofs.VectorLemmas.{HasLanes-itself, HasLanes_same, HasLanes-splat, HasLanes-zip2, compared}
use Rattle.encoding_kernels.proofs.MaskLemmas.{chosen, chosen_by, tests_and, tests_of}
use Rattle.encoding_kernels.proofs.SurrogatePairsLemmas.{high_test, low_test}
use Rattle.encoding_kernels.proofs.PairsLemmas.{follows_test}
use Rattle.encoding_definitions.proofs.Latin1Lemmas.{at_drop_start}

-- the sum from an index on, by the term at that index
pub total_next : (f : List ℕ → ℕ) (xs : List ℕ) (i : ℕ) → i < length xs
    → sum_over_suffixes f (drop i xs) ≡ f (drop i xs) + sum_over_suffixes f (drop (i + 1) xs)
unfolding sum_over_suffixes
total_next f xs i l =
    let e : sum_over_suffixes f (drop i xs) ≡ f (drop i xs) + sum_over_suffixes f (drop (suc i) xs) = by_suc xs i l in
    let next : suc i ≡ i + 1 = omega arith in
    e ∙ ap (λ n. f (drop i xs) + sum_over_suffixes f (drop n xs)) next
  where
    by_suc : (xs : List ℕ) (i : ℕ) → i < length xs → sum_over_suffixes f (drop i xs) ≡ f (drop i xs) + sum_over_suffixes f (drop (suc i) xs)
    by_suc [] i l = absurd (omega arith)
    by_suc (x ∷ xs) zero l = refl
    by_suc (x ∷ xs) (suc i) l = by_suc xs i (omega arith)

pub total_end : (f : List ℕ → ℕ) (xs : List ℕ) (i : ℕ) → length xs ≤ i → sum_over_suffixes f (drop i xs) ≡ 0
unfolding sum_over_suffixes
total_end f [] zero l = refl
total_end f [] (suc i) l = refl
total_end f (x ∷ xs) zero l = absurd (omega arith)
total_end f (x ∷ xs) (suc i) l = total_end f xs i (omega arith)

-- one index after the other
pub ruleset single_terms = (total_end, total_next)

-- ---- the lanes of a vector
abbrev pub total_from : (List ℕ → ℕ) → List ℕ → ℕ → ℕ
total_from f xs i = sum_over_suffixes f (drop i xs)

-- the lanes from `skip` on are the terms of the indices from `at + skip` on, and those before are zero
pub lanes_total : (f : List ℕ → ℕ) (xs z : List ℕ) (at skip : ℕ) → at + length z ≤ length xs → skip ≤ length z
    → ((k : ℕ) → k < skip → slice_index z k ≡ 0) → ((k : ℕ) → skip ≤ k → k < length z → slice_index z k ≡ f (drop (at + k) xs))
    → sum_l z + sum_over_suffixes f (drop (at + length z) xs) ≡ sum_over_suffixes f (drop (at + skip) xs)
lanes_total f xs [] at zero room l none same = omega arith
lanes_total f xs [] at (suc skip) room l none same = absurd (omega arith)
lanes_total f xs (x ∷ z) at zero room l none same =
    let more = lanes_total f xs z (at + 1) 0 (omega arith) (omega arith) (λ k b. absurd (omega arith)) (λ k a b. let e : at + suc k ≡ at + 1 + k =
    omega arith in same (suc k) (omega arith) (omega arith) ∙ ap (λ n. f (drop n xs)) e) in
    let here : at + 0 ≡ at = omega arith in
    let next : at + 1 + 0 ≡ at + 1 = omega arith in
    let end : at + suc (length z) ≡ at + 1 + length z = omega arith in
    let first : x ≡ f (drop at xs) = same 0 (omega arith) (omega arith) ∙ ap (λ n. f (drop n xs)) here in
    omega (arith, more, first, ap (total_from f xs) here, ap (total_from f xs) next, ap (total_from f xs) end, total_next f xs at (omega arith))
lanes_total f xs (x ∷ z) at (suc skip) room l none same =
    let more = lanes_total f xs z (at + 1) skip (omega arith) (omega arith) (λ k b. none (suc k) (omega arith)) (λ k a b. let e : at + suc k ≡ at + 1 + k =
    omega arith in same (suc k) (omega arith) (omega arith) ∙ ap (λ n. f (drop n xs)) e) in
    let next : at + suc skip ≡ at + 1 + skip = omega arith in
    let end : at + suc (length z) ≡ at + 1 + length z = omega arith in
    let first : x ≡ 0 = none 0 (omega arith) in
    omega (arith, more, first, ap (total_from f xs) next, ap (total_from f xs) end)

-- all lanes are terms
pub vector_total : (f : List ℕ → ℕ) (xs : List ℕ) (n at next : ℕ) {z : List ℕ} → next ≡ at + n → next ≤ length xs → HasLanes n z (λ k. f (drop (at + k) xs))
    → sum_l z + sum_over_suffixes f (drop next xs) ≡ sum_over_suffixes f (drop at xs)
vector_total f xs n at next {z} p room lanes =
    let end : at + length z ≡ next = omega (arith, lanes.long) in
    let here : at + 0 ≡ at = omega arith in
    omega (
      arith,
      lanes_total f xs z at 0 (omega (arith, lanes.long)) (omega arith) (λ k l. absurd (omega arith))
          (λ k a l. lanes.each k (omega (arith, lanes.long))),
      ap (total_from f xs) end,
      ap (total_from f xs) here,
    )

-- a lane of a load is a unit of the suffix from an index on
pub loaded : (xs : List ℕ) (at n j k start : ℕ) → start ≡ at + j → k < n → get_or (chunk start n xs) k 0 ≡ slice_index (drop (at + k) xs) j
loaded xs at n j k start p l =
    let e : start + k ≡ at + k + j = omega arith in
    get_or-chunk start n xs k 0 l ∙ ap (slice_index xs) e ∙ sym (get_or-drop (at + k) xs j 0)

pub zeros_total : (n : ℕ) → sum_l (replicate n 0) ≡ 0
zeros_total zero = refl
zeros_total (suc n) = omega (arith, zeros_total n)

-- ---- sums of vectors, each lane at most twice as many as there were vectors
few_more : (n at place a b : ℕ) → a * n + 2 * at ≤ 2 * place → b ≤ 2 → (a + b) * n + 2 * at ≤ 2 * (place + n)
few_more n at place a b p q = omega (arith, add-mul a b n, mul-le-mul_right n q)

few_fit : (n at place a : ℕ) → 0 < n → place ≤ at + 127 * n → a * n + 2 * at ≤ 2 * place → a < 2 ^ 8
few_fit n at place a pos room p = elim (cases_lt a 256) [
  | inl l ↦ l
  | inr l ↦ absurd (omega (arith, mul-le-mul_right n l))
]

module _ (n at place : ℕ) (sums z : List ℕ) (few : Each1 (λ a. a * n + 2 * at ≤ 2 * place) sums) (small : Each1 (λ b. b ≤ 2) z) where
  pub sums_fit : 0 < n → place + n ≤ at + 127 * n → Each2 (λ a b. Fits w8 (a + b)) sums z
  sums_fit pos room = Each2-of (λ a. a * n + 2 * at ≤ 2 * place) (λ b. b ≤ 2) (λ a b. Fits w8 (a + b))
      (λ a b p q. record { fits = few_fit n at (place + n) (a + b) pos room (few_more n at place a b p q) }) sums z few small

  pub sums_few : Each1 (λ a. a * n + 2 * at ≤ 2 * (place + n)) (zip2 (λ a b. a + b) sums z)
  sums_few = Each1-zip2 (λ a b. a + b) (λ a. a * n + 2 * at ≤ 2 * (place + n)) sums z
      (Each2-of (λ a. a * n + 2 * at ≤ 2 * place) (λ b. b ≤ 2) (λ a b. (a + b) * n + 2 * at ≤ 2 * (place + n))
      (λ a b p q. few_more n at place a b p q) sums z few small)

pub lanes_few : (f : List ℕ → ℕ) (xs : List ℕ) (n at : ℕ) {z : List ℕ} → ((ys : List ℕ) → f ys ≤ 2) → HasLanes n z (λ k. f (drop (at + k) xs))
    → Each1 (λ b. b ≤ 2) z
lanes_few f xs n at {z} few lanes = Each1-from_get_or (λ b. b ≤ 2) z 0 (λ k l. omega (arith, lanes.each k (omega (arith, lanes.long)), few (drop (at + k) xs)))

-- the sum of all lanes
pub lanes_fit : (n : ℕ) (z : List ℕ) → length z ≡ n → n ≤ 64 → Each1 (Fits w8) z → sum_l z < 2 ^ 16
lanes_fit n z long few fit = omega (arith, sum_bound 255 z (bytes_below z fit))

pub total_most : (f : List ℕ → ℕ) → ((ys : List ℕ) → f ys ≤ 2) → (xs : List ℕ) → sum_over_suffixes f xs ≤ 2 * length xs
unfolding sum_over_suffixes
total_most f few [] = omega arith
total_most f few (x ∷ xs) = omega (arith, few (x ∷ xs), total_most f few xs)

bool_byte_most : (b : Bool) → bool_byte b ≤ 1
bool_byte_most b = grind (arith, nat_tests)

pub ones_most : (least : ℕ) (xs : List ℕ) → sum_over_suffixes (one_if_at_least least) xs ≤ length xs
unfolding sum_over_suffixes
ones_most least [] = omega arith
ones_most least (x ∷ xs) = omega (arith, bool_byte_most (nat_le least x), ones_most least xs)

-- ---- the lanes after those that are counted
bounds_are : BOUNDS ≡ replicate 64 0 ++ replicate 64 2
bounds_are = refl

pub bound_before : (j : ℕ) → j < 64 → slice_index BOUNDS j ≡ 0
bound_before j l = ap (λ xs. get_or xs j 0) bounds_are ∙ get_or_append_left (replicate 64 0) (replicate 64 2) 0 j l ∙ get_or-replicate 64 j 0 0 l

pub bound_after : (j : ℕ) → 64 ≤ j → j < 128 → slice_index BOUNDS j ≡ 2
bound_after j a l = ap (λ xs. get_or xs j 0) bounds_are ∙ get_or-append_right (replicate 64 0) (replicate 64 2) 64 j 0 refl a
    ∙ get_or-replicate 64 (j - 64) 2 0 (omega arith)

-- a lane that is bounded by zero, or by the greatest term
pub cut_lane : (x k skip : ℕ) → x ≤ 2 → k < 64 → skip ≤ 64
    → cond (ltb x (slice_index BOUNDS (64 - skip + k))) x (slice_index BOUNDS (64 - skip + k)) ≡ cond (ltb k skip) 0 x
cut_lane x k skip small few l = elim (cases_lt k skip) [
  | inl a ↦ none_kept x _ (bound_before (64 - skip + k) (omega arith)) ∙ sym (cond-true _ _ _ (lt-ltb k skip a))
  | inr b ↦ all_kept x _ (bound_after (64 - skip + k) (omega arith) (omega arith)) small ∙ sym (cond-false _ _ _ (le-ltb k skip b))
]
  where
    none_kept : (x y : ℕ) → y ≡ 0 → cond (ltb x y) x y ≡ 0
    none_kept x y e = grind (arith, nat_tests)

    all_kept : (x y : ℕ) → y ≡ 2 → x ≤ 2 → cond (ltb x y) x y ≡ x
    all_kept x y e l = grind (arith, nat_tests)

-- the last n lanes before `end`, of which those before `at` are zero
pub last_total : (f : List ℕ → ℕ) (xs : List ℕ) (n at end : ℕ) → n ≤ end → at ≤ end → end ≤ at + n → end ≤ length xs
    → {y z : List ℕ} → HasLanes n y (λ k. f (drop (end - n + k) xs)) → HasLanes n z (λ k. cond (ltb k (at - (end - n))) 0 (slice_index y k))
    → sum_l z + sum_over_suffixes f (drop end xs) ≡ sum_over_suffixes f (drop at xs)
last_total f xs n at end fits order near room {y} {z} terms lanes =
    let from = end - n in
    let skip = at - from in
    let start : from + skip ≡ at = omega arith in
    let stop : from + length z ≡ end = omega (arith, lanes.long) in
    let total = lanes_total f xs z from skip (omega (arith, lanes.long)) (omega (arith, lanes.long))
    (λ k l. lanes.each k (omega arith) ∙ cond-true _ _ _ (lt-ltb k skip l))
    (λ k a l. lanes.each k (omega (arith, lanes.long)) ∙ cond-false _ _ _ (le-ltb k skip a) ∙ terms.each k (omega (arith, lanes.long))) in
    omega (arith, total, ap (total_from f xs) start, ap (total_from f xs) stop)

-- ---- units below a bound have no terms
skipped : (bound : ℕ) (f : List ℕ → ℕ) (xs : List ℕ) → ((ys : List ℕ) → slice_index ys 0 < bound → f ys ≡ 0) → (n at : ℕ) → at + n ≤ length xs
    → ((k : ℕ) → at ≤ k → k < at + n → slice_index xs k < bound) → sum_over_suffixes f (drop (at + n) xs) ≡ sum_over_suffixes f (drop at xs)
skipped bound f xs zeros zero at l h = let e : at + 0 ≡ at = omega arith in ap (total_from f xs) e
skipped bound f xs zeros (suc n) at l h =
    let e : at + suc n ≡ at + 1 + n = omega arith in
    let more = skipped bound f xs zeros n (at + 1) (omega arith) (λ k from to. h k (omega arith) (omega arith)) in
    let none = zeros (drop at xs) (omega (arith, at_drop_start xs at, h at (omega arith) (omega arith))) in
    omega (arith, ap (total_from f xs) e, more, none, total_next f xs at (omega arith))

pub skipped_below : (bound : ℕ) (f : List ℕ → ℕ) (xs : List ℕ) → ((ys : List ℕ) → slice_index ys 0 < bound → f ys ≡ 0) → (from to : ℕ)
    → from ≤ to → to ≤ length xs
    → ((k : ℕ) → from ≤ k → k < to → slice_index xs k < bound) → sum_over_suffixes f (drop to xs) ≡ sum_over_suffixes f (drop from xs)
skipped_below bound f xs zeros from to order room h =
    let e : from + (to - from) ≡ to = omega arith in
    sym (ap (total_from f xs) e) ∙ skipped bound f xs zeros (to - from) from (omega arith) (λ k a b. h k a (omega arith))

-- ---- ASCII has no terms
pub skipped_to : (f : List ℕ → ℕ) (xs : List ℕ) → ((ys : List ℕ) → slice_index ys 0 < 0x80 → f ys ≡ 0) → (from to : ℕ) → from ≤ to → to ≤ length xs
    → ((k : ℕ) → from ≤ k → k < to → slice_index xs k < 0x80) → sum_over_suffixes f (drop to xs) ≡ sum_over_suffixes f (drop from xs)
skipped_to f xs = skipped_below 0x80 f xs

continued_by : (a b c : ℕ) → a < 0x80 → continuations_by a b c ≡ 0
continued_by a b c l = grind (arith, nat_tests)

pub ascii_joined : (ys : List ℕ) → slice_index ys 0 < 0x80 → continuations ys ≡ 0
ascii_joined ys l = continued_by (slice_index ys 0) (slice_index ys 1) (slice_index ys 2) l

extended_by : (u v : ℕ) → u < 0x80 → extra_bytes_by u v ≡ 0
extended_by u v l = grind (arith, nat_tests)

pub ascii_beyond : (us : List ℕ) → slice_index us 0 < 0x80 → extra_bytes us ≡ 0
ascii_beyond us l = extended_by (slice_index us 0) (slice_index us 1) l

-- ---- the terms of an index
pub term_from : (least : ℕ) (xs : List ℕ) (i : ℕ) → one_if_at_least least (drop i xs) ≡ bool_byte (nat_le least (slice_index xs i))
term_from least xs i = ap (λ b. bool_byte (nat_le least b)) (at_drop_start xs i)

pub term_joined : (xs : List ℕ) (i : ℕ) → continuations (drop i xs) ≡ continuations_by (slice_index xs i) (slice_index xs (i + 1)) (slice_index xs (i + 2))
term_joined xs i = λ k. continuations_by (at_drop_start xs i k) (get_or-drop i xs 1 0 k) (get_or-drop i xs 2 0 k)

pub term_beyond : (xs : List ℕ) (i : ℕ) → extra_bytes (drop i xs) ≡ extra_bytes_by (slice_index xs i) (slice_index xs (i + 1))
term_beyond xs i = λ k. extra_bytes_by (at_drop_start xs i k) (get_or-drop i xs 1 0 k)

-- a sum fits
pub total_fits : (f : List ℕ → ℕ) → ((ys : List ℕ) → f ys ≤ 2) → (xs : List ℕ) (i : ℕ) → length xs < 2 ^ 63 → sum_over_suffixes f (drop i xs) < 2 ^ 64
total_fits f few xs i l = omega (arith, total_most f few (drop i xs), length-drop i xs)

-- ---- the terms of Latin1, lane by lane
pub one_or_none : (b : Bool) → cond b 1 0 ≡ bool_byte b
one_or_none true = refl
one_or_none false = refl

-- ---- UTF-8
abbrev pub joins_lane : ℕ → ℕ → Bool
joins_lane a b = (((leb 0xC2 a && leb a 0xF4) && not (eqb a (cond (ltb b 0xA0) 0xE0 0xED))) && not (eqb a (cond (ltb b 0x90) 0xF0 0xF4))) && eqb
    (bit_and b 0xC0) 0x80

joins_is : (a b : ℕ) → b < 2 ^ 8 → joins_lane a b ≡ goes_second a b
joins_is a b l = let two_bits = follows_test b l in grind (arith, nat_tests)

counted : (p q r : Bool) → (cond p 1 0 + cond ((p && q) && r) 1 0) % 2 ^ 8 ≡ cond p (cond (q && r) 2 1) 0
counted true true true = refl
counted true true false = refl
counted true false r = refl
counted false q r = refl

pub below_is : (c : ℕ) → ltb c 0xC0 ≡ nat_le c 0xBF
below_is c = grind (arith, nat_tests)

pub joined_lane : (a b c : ℕ) → b < 2 ^ 8 → c < 2 ^ 8
    → (cond (joins_lane a b) 1 0 + cond ((joins_lane a b && leb 0xE0 a) && eqb (bit_and c 0xC0) 0x80) 1 0) % 2 ^ 8 ≡ continuations_by a b c
joined_lane a b c l m =
    let third : eqb (bit_and c 0xC0) 0x80 ≡ (leb 0x80 c && nat_le c 0xBF) = follows_test c m ∙ ap (λ t. leb 0x80 c && t) (below_is c) in
    counted (joins_lane a b) (leb 0xE0 a) (eqb (bit_and c 0xC0) 0x80) ∙ (λ i. cond (joins_is a b l i) (cond (leb 0xE0 a && third i) 2 1) 0)

-- ---- UTF-16
same_bool : (a b : Bool) → (a ≡ true → b ≡ true) → (b ≡ true → a ≡ true) → a ≡ b
same_bool true true p q = refl
same_bool true false p q = sym (p refl)
same_bool false true p q = q refl
same_bool false false p q = refl

high_from : (u : ℕ) → (nat_le 0xD800 u && nat_le u 0xDBFF) ≡ true → IsHighSurrogate u
high_from u e = (grind (arith, nat_tests), grind (arith, nat_tests))

high_to : (u : ℕ) → IsHighSurrogate u → (nat_le 0xD800 u && nat_le u 0xDBFF) ≡ true
high_to u h = grind (arith, nat_tests)

low_from : (u : ℕ) → (nat_le 0xDC00 u && nat_le u 0xDFFF) ≡ true → IsLowSurrogate u
low_from u e = (grind (arith, nat_tests), grind (arith, nat_tests))

low_to : (u : ℕ) → IsLowSurrogate u → (nat_le 0xDC00 u && nat_le u 0xDFFF) ≡ true
low_to u h = grind (arith, nat_tests)

pub pair_is : (u v : ℕ) → u < 2 ^ 16 → v < 2 ^ 16 → (eqb (bit_and u 0xFC00) 0xD800 && eqb (bit_and v 0xFC00) 0xDC00) ≡ is_surrogate_pair u v
pair_is u v l m =
    let high = same_bool (eqb (bit_and u 0xFC00) 0xD800) (nat_le 0xD800 u && nat_le u 0xDBFF) (λ e. high_to u ((high_test u l).0 e))
    (λ e. (high_test u l).1 (high_from u e)) in
    let low = same_bool (eqb (bit_and v 0xFC00) 0xDC00) (nat_le 0xDC00 v && nat_le v 0xDFFF) (λ e. low_to v ((low_test v m).0 e))
    (λ e. (low_test v m).1 (low_from v e)) in
    λ i. high i && low i

sized : (p q r : Bool) → (r ≡ true → q ≡ true) → cond p 0 ((cond q 1 0 + cond r 1 0) % 2 ^ 16) ≡ cond p 0 (cond r 2 (cond q 1 0))
sized true q r h = refl
sized false true true h = refl
sized false true false h = refl
sized false false true h = absurd (false≢true (h refl))
sized false false false h = refl

ordered : (u : ℕ) → leb 0x800 u ≡ true → leb 0x80 u ≡ true
ordered u e = grind (arith, nat_tests)

beyond_lane : (u v : ℕ) → u < 2 ^ 16 → v < 2 ^ 16
    → cond (eqb (bit_and u 0xFC00) 0xD800 && eqb (bit_and v 0xFC00) 0xDC00) 0 ((cond (leb 0x80 u) 1 0 + cond (leb 0x800 u) 1 0) % 2 ^ 16) ≡ extra_bytes_by u v
beyond_lane u v l m =
    sized (eqb (bit_and u 0xFC00) 0xD800 && eqb (bit_and v 0xFC00) 0xDC00) (leb 0x80 u) (leb 0x800 u) (ordered u)
    ∙ (λ i. cond (pair_is u v l m i) 0 (cond (leb 0x800 u) 2 (cond (leb 0x80 u) 1 0)))

-- the sum of two selections, zero for the first unit of a pair
abbrev pub beyond_vector : ℕ → List ℕ → List ℕ → List ℕ
beyond_vector n us vs =
    let high = zip2 (compared w16 eqb) (zip2 bit_and us (replicate n 0xFC00)) (replicate n 0xD800) in
    let low = zip2 (compared w16 eqb) (zip2 bit_and vs (replicate n 0xFC00)) (replicate n 0xDC00) in
    let second = sel_l (map (top 15) (zip2 (compared w16 leb) (replicate n 0x80) us)) (replicate n 1) (replicate n 0) in
    let third = sel_l (map (top 15) (zip2 (compared w16 leb) (replicate n 0x800) us)) (replicate n 1) (replicate n 0) in
    sel_l (map (top 15) (zip2 bit_and high low)) (replicate n 0) (zip2 (λ x y. (x + y) % 2 ^ 16) second third)

module _ (n : ℕ) (us vs : List ℕ) (p : length us ≡ n) (q : length vs ≡ n) (fit : Each1 (Fits w16) us) (fits : Each1 (Fits w16) vs) where
  pub beyond_are : HasLanes n (beyond_vector n us vs) (λ k. extra_bytes_by (slice_index us k) (slice_index vs k))
  beyond_are =
      let u = HasLanes-itself n us p in
      let high = tests_of w16 eqb (HasLanes-zip2 bit_and u (HasLanes-splat n 0xFC00)) (HasLanes-splat n 0xD800) in
      let low = tests_of w16 eqb (HasLanes-zip2 bit_and (HasLanes-itself n vs q) (HasLanes-splat n 0xFC00)) (HasLanes-splat n 0xDC00) in
      let second = chosen 1 0 (tests_of w16 leb (HasLanes-splat n 0x80) u) in
      let third = chosen 1 0 (tests_of w16 leb (HasLanes-splat n 0x800) u) in
      HasLanes_same (chosen_by (tests_and high low) (HasLanes-splat n 0) (HasLanes-zip2 (λ x y. (x + y) % 2 ^ 16) second third)) (λ k l.
      beyond_lane (slice_index us k) (slice_index vs k) (Each1-get_or (Fits w16) us k 0 (omega arith) fit).fits
      (Each1-get_or (Fits w16) vs k 0 (omega arith) fits).fits)

  pub beyond_fit : Each1 (Fits w8) (beyond_vector n us vs)
  beyond_fit = Each1-from_get_or (Fits w8) (beyond_vector n us vs) 0
      (λ k l. record { fits = omega (arith, beyond_are.each k (omega (arith, beyond_are.long)), extra_bytes_by_few (slice_index us k) (slice_index vs k)) })
