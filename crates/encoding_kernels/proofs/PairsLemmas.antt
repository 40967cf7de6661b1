-- Units that may come in pairs: if each second unit follows a first one, and each first one precedes a second one, a
-- prefix is whole, except for a first unit at its end.
use Rattle.std.proofs.Common.{◌≡◌, ℕ, zero, suc, ◌+◌, ◌-◌, ◌^◌, ◌<◌, ◌≤◌, ◌↔◌, ◌⊎◌, inl, inr, Bool, true, false, not, cond, ◌||◌, ◌&&◌, eqb}
use Rattle.std.proofs.Common.{leb, ltb, List, [], ◌∷◌, length, take, slice_index, bit_and, ◌%◌, drop, refl, sym, ap, ◌∙◌, arith, subst}
use Rattle.std.proofs.lemmas.Bool.{cases_lt, agree_below_at}
use Rattle.std.proofs.lemmas.List.{get_or_past}
use Rattle.std.proofs.lemmas.Bool.Decides.{nat_tests}
use Rattle.encoding_definitions.specs.Latin1.{IsUtf8Latin1}
use Rattle.encoding_definitions.specs.Sequence.{IsContinuation}
use Rattle.encoding_kernels.specs.Neighbors.{PairUp, HaveNoSurrogate, FitsLatin1, FitLatin1, pair_fault, latin1_fault}
use Rattle.encoding_kernels.specs.Scans.{PassBetween, BelowUpTo}
use Rattle.encoding_definitions.specs.Surrogates.{IsValidUtf16}
use Rattle.encoding_definitions.specs.Utf16.{IsHighSurrogate, IsLowSurrogate}
use Rattle.encoding_definitions.proofs.SurrogateLemmas.{valid-encode, valid_more_one, valid_more_two}
use Rattle.encoding_definitions.proofs.Latin1Lemmas.{latin1_more_one, latin1_more_two, IsUtf8Latin1-nil}
use Rattle.encoding_kernels.proofs.ScanLemmas.{unit_is}
use Rattle.encoding_kernels.proofs.SurrogatePairsLemmas.{low_test, high_test, same_tests}

before_next : (us : List ℕ) (k : ℕ) → slice_index (0 ∷ us) (k + 1) ≡ slice_index us k
before_next us k = ap (λ j. slice_index (0 ∷ us) j) {x = k + 1} {y = suc k} (omega arith)

module _ (First Second IsWhole : ℕ → Type 0) (us : List ℕ) (n : ℕ)
    (each : (k : ℕ) → k < n → Second (slice_index us k) ↔ First (slice_index (0 ∷ us) k))
    (decided : (u : ℕ) → First u ⊎ (First u → ⊥)) (not_zero : First 0 → ⊥) (not_both : (u : ℕ) → First u → Second u → ⊥) (start : IsWhole 0)
    (one : (k : ℕ) → k < n → IsWhole k → (First (slice_index us k) → ⊥) → (Second (slice_index us k) → ⊥) → IsWhole (k + 1))
    (two : (k : ℕ) → k + 1 < n → IsWhole k → First (slice_index us k) → Second (slice_index us (k + 1)) → IsWhole (k + 2)) where
  -- all before k is whole, and no first unit is left; or one is
  abbrev Walked : ℕ → Type 0
  Walked k = (IsWhole k × (First (slice_index (0 ∷ us) k) → ⊥)) ⊎ ((j : ℕ) × (k ≡ j + 1) × IsWhole j × First (slice_index us j))

  step : (k : ℕ) → k < n → Walked k → Walked (k + 1)
  step k l (inl (whole, none)) = elim (decided (slice_index us k)) [
    | inl f ↦ inr (k, refl, whole, f)
    | inr f ↦ inl (one k l whole f (λ s. none ((each k l).0 s)), subst (λ u. First u → ⊥) (sym (before_next us k)) f)
  ]
  step k l (inr (j, e, whole, f)) =
      let before : slice_index (0 ∷ us) k ≡ slice_index us j = ap (λ i. slice_index (0 ∷ us) i) e ∙ before_next us j in
      let here : Second (slice_index us k) = (each k l).1 (subst First (sym before) f) in
      let both = two j (omega arith) whole f (subst (λ i. Second (slice_index us i)) e here) in
      inl (subst IsWhole {x = j + 2} {y = k + 1} (omega arith) both, λ g. not_both (slice_index us k) (subst First (before_next us k) g) here)

  walk : (k : ℕ) → k ≤ n → Walked k
  walk zero l = inl (start, not_zero)
  walk (suc k) l = subst Walked {x = k + 1} {y = suc k} (omega arith) (step k (omega arith) (walk k (omega arith)))

  module _ (some : 0 < n) where
    last_is : slice_index (0 ∷ us) n ≡ slice_index us (n - 1)
    last_is = ap (λ i. slice_index (0 ∷ us) i) {x = n} {y = n - 1 + 1} (omega arith) ∙ before_next us (n - 1)

    -- no first unit is left at the end
    whole_prefix : (First (slice_index us (n - 1)) → ⊥) → IsWhole n
    whole_prefix none = elim (walk n (omega arith)) [
      | inl w ↦ w.0
      | inr w ↦ let at : w.0 ≡ n - 1 = omega (arith, w.1) in absurd (none (subst (λ i. First (slice_index us i)) at w.3))
    ]

    -- one is left
    cut_prefix : First (slice_index us (n - 1)) → IsWhole (n - 1)
    cut_prefix f = elim (walk n (omega arith)) [
      | inl w ↦ absurd (w.1 (subst First (sym last_is) f))
      | inr w ↦ let at : w.0 ≡ n - 1 = omega (arith, w.1) in subst IsWhole at w.2
    ]

-- ---- surrogates
valid_none : IsValidUtf16 []
valid_none = valid-encode [] [] refl refl

pub high_decided : (u : ℕ) → IsHighSurrogate u ⊎ (IsHighSurrogate u → ⊥)
high_decided u = grind (arith, nat_tests)

not_surrogate : (u : ℕ) → (IsHighSurrogate u → ⊥) → (IsLowSurrogate u → ⊥) → 0xD800 ≤ u → u ≤ 0xDFFF → ⊥
not_surrogate u h l a b = grind arith

module _ (us : List ℕ) (n : ℕ) (within : n ≤ length us) (some : 0 < n) (units : (k : ℕ) → slice_index us k < 0x10000) (p : PairUp us 0 n) where
  abbrev IsValidTo : ℕ → Type 0
  IsValidTo k = IsValidUtf16 (take k us)

  one_unit_more : (k : ℕ) → k < n → IsValidTo k → (IsHighSurrogate (slice_index us k) → ⊥) → (IsLowSurrogate (slice_index us k) → ⊥) → IsValidTo (k + 1)
  one_unit_more k l v h m = valid_more_one us k (omega arith) (units k) v (not_surrogate (slice_index us k) h m)

  one_pair_more : (k : ℕ) → k + 1 < n → IsValidTo k → IsHighSurrogate (slice_index us k) → IsLowSurrogate (slice_index us (k + 1)) → IsValidTo (k + 2)
  one_pair_more k l v h m = valid_more_two us k (omega arith) v (h.0, omega (arith, h.1), m.0, omega (arith, m.1))

  pub valid_whole : (IsHighSurrogate (slice_index us (n - 1)) → ⊥) → IsValidUtf16 (take n us)
  valid_whole = whole_prefix IsHighSurrogate IsLowSurrogate IsValidTo us n (λ k l. p.each k (omega arith) l) high_decided (λ h. omega (arith, h.0))
      (λ u h l. omega (arith, h.1, l.0))
      valid_none one_unit_more one_pair_more some

  pub valid_cut : IsHighSurrogate (slice_index us (n - 1)) → IsValidUtf16 (take (n - 1) us)
  valid_cut = cut_prefix IsHighSurrogate IsLowSurrogate IsValidTo us n (λ k l. p.each k (omega arith) l) high_decided (λ h. omega (arith, h.0))
      (λ u h l. omega (arith, h.1, l.0))
      valid_none one_unit_more one_pair_more some

-- no units
pub valid_start : (us : List ℕ) (n : ℕ) → n ≡ 0 → IsValidUtf16 (take n us)
valid_start us n e = subst (λ m. IsValidUtf16 (take m us)) (sym e) valid_none

-- before a pair that may be cut
pub ruleset cut_pairs = (valid_start, valid_whole, valid_cut)

pub paired_joined : (us : List ℕ) (a b from to : ℕ) → PairUp us a b → PairUp us from to → from ≤ b → PairUp us a to
paired_joined us a b from to p q l = record { each = λ k h m. elim (cases_lt k b) [ inl i ↦ p.each k h i | inr i ↦ q.each k (omega arith) m ] }

-- two tests with one result
same_lane : (a b : Bool) (P Q : Type 0) → (a ≡ true) ↔ P → (b ≡ true) ↔ Q → cond a (not b) b ≡ false → P ↔ Q
same_lane a b P Q p q e = let same = same_tests a b e in (λ x. q.0 (sym same ∙ p.1 x), λ y. p.0 (same ∙ q.1 y))

-- adjacent pairs without an error, as the rule on each unit and the one before it
pub pairs_up : (us : List ℕ) (from to at end : ℕ) → from < at → end ≤ to + 1 → ((k : ℕ) → slice_index us k < 2 ^ 16)
    → PassBetween (λ k. pair_fault (slice_index us (k + 1)) (slice_index us k) ≡ false) from to
    → PairUp us at end
pairs_up us from to at end o p units none = record {
  each = λ k l m.
      let here : k - 1 + 1 ≡ k = omega arith in
      let clean : pair_fault (slice_index us k) (slice_index us (k - 1)) ≡ false = rw here at (none (k - 1) (omega arith) (omega arith)) in
      let last : slice_index (0 ∷ us) k ≡ slice_index us (k - 1) = ap (λ i. slice_index (0 ∷ us) i) (sym here) ∙ before_next us (k - 1) in
      let low = low_test (slice_index us k) (units k) in
      let high = high_test (slice_index us (k - 1)) (units (k - 1)) in
      subst (λ u. IsLowSurrogate (slice_index us k) ↔ IsHighSurrogate u) (sym last) (same_lane _ _ _ _ low high clean);
}

-- the same from the first unit on, which isn't a low surrogate
pairs_start : (us : List ℕ) (end : ℕ) → (IsLowSurrogate (slice_index us 0) → ⊥) → PairUp us 1 end → PairUp us 0 end
pairs_start us end first p = record {
  each = λ k from to. elim (cases_lt 0 k) [
    | inl l ↦ p.each k (omega arith) to
    | inr l ↦ let e : 0 ≡ k = omega arith in
        subst (λ j. IsLowSurrogate (slice_index us j) ↔ IsHighSurrogate (slice_index (0 ∷ us) j)) e (λ h. absurd (first h), λ h. absurd (omega (arith, h.0)))
  ];
}

-- the same for the first units of a text
pub pairs_first : (us : List ℕ) (at end : ℕ) → at ≡ 0 → 0 < end → (IsLowSurrogate (slice_index us 0) → ⊥) → ((k : ℕ) → slice_index us k < 2 ^ 16)
    → PassBetween (λ k. pair_fault (slice_index us (k + 1)) (slice_index us k) ≡ false) 0 (end - 1) → PairUp us at (at + end)
pairs_first us at end at_start some first units none =
    let start = pairs_start us end first (pairs_up us 0 (end - 1) 1 end (omega arith) (omega arith) units none) in
    subst (λ m. PairUp us m (m + end)) (sym at_start) (subst (PairUp us 0) {x = end} {y = 0 + end} (omega arith) start)

-- ---- blocks without a surrogate
-- a unit minus the least surrogate, in sixteen bits
abbrev pub above_least : ℕ → ℕ
above_least u = (u + (2 ^ 16 - 0xD800)) % 2 ^ 16

abbrev pub least_of : ℕ → ℕ → ℕ
least_of a b = cond (ltb a b) a b

four_from : (a b c d x : ℕ) → ltb (least_of (least_of a b) (least_of c d)) x ≡ false → (x ≤ a) × (x ≤ b) × (x ≤ c) × (x ≤ d)
four_from a b c d x h = (grind (arith, nat_tests), grind (arith, nat_tests), grind (arith, nat_tests), grind (arith, nat_tests))

far_from_least : (u : ℕ) → u < 2 ^ 16 → 0x800 ≤ above_least u → 0xD800 ≤ u → u ≤ 0xDFFF → ⊥
far_from_least u l h from to = omega arith

-- four vectors of sixteen, by the least of each four lanes
pub none_in_block : (us : List ℕ) → length us ≡ 64 → ((k : ℕ) → slice_index us k < 2 ^ 16)
    → ((k : ℕ) → k < 16 → ltb (least_of (least_of (above_least (slice_index us (0 + k))) (above_least (slice_index us (16 + k))))
    (least_of (above_least (slice_index us (32 + k))) (above_least (slice_index us (48 + k))))) 0x800 ≡ false)
    → HaveNoSurrogate us
none_in_block us long units none k from to =
    let far = λ (m j : ℕ) (e : m + j ≡ k) (h : 0x800 ≤ above_least (slice_index us (m + j))).
    far_from_least (slice_index us k) (units k) (subst (λ i. 0x800 ≤ above_least (slice_index us i)) e h) from to in
    let all = λ (j : ℕ) (l : j < 16). four_from (above_least (slice_index us (0 + j))) (above_least (slice_index us (16 + j)))
    (above_least (slice_index us (32 + j))) (above_least (slice_index us (48 + j))) 0x800 (none j l) in
    elim (cases_lt k 16) [
      | inl p ↦ far 0 k (omega arith) (all k p).0
      | inr p ↦ elim (cases_lt k 32) [
        | inl q ↦ far 16 (k - 16) (omega arith) (all (k - 16) (omega arith)).1
        | inr q ↦ elim (cases_lt k 48) [
          | inl r ↦ far 32 (k - 32) (omega arith) (all (k - 32) (omega arith)).2
          | inr r ↦ elim (cases_lt k 64) [
            | inl s ↦ far 48 (k - 48) (omega arith) (all (k - 48) (omega arith)).3
            | inr s ↦ omega (arith, get_or_past us k 0 (omega (arith, long)))
          ]
        ]
      ]
    ]

-- if no unit of a block is a surrogate, and the one before it isn't a high one, a unit of it is a low one if and only
-- if it follows a high one
pub paired_clear : (us block : List ℕ) (at n : ℕ) → block ≡ take n (drop at us) → HaveNoSurrogate block → (IsHighSurrogate (slice_index (0 ∷ us) at) → ⊥)
    → PairUp us at (at + n)
paired_clear us block at n is none before = record {
  each = λ k from to.
      let in_block = λ (i : ℕ) (l : at ≤ i) (m : i < at + n).
      let e : at + (i - at) ≡ i = omega arith in unit_is 0 at n us block is (i - at) (omega arith) ∙ ap (slice_index us) e in
      let here = in_block k from to in
      let not_low : IsLowSurrogate (slice_index us k) → ⊥ = λ h. none (k - at) (omega (arith, here, h.0)) (omega (arith, here, h.1)) in
      let not_high : IsHighSurrogate (slice_index (0 ∷ us) k) → ⊥ = elim (cases_lt at k) [
        | inl l ↦
            let there = in_block (k - 1) (omega arith) (omega arith) in
            let last : slice_index (0 ∷ us) k ≡ slice_index us (k - 1) = ap (λ i. slice_index (0 ∷ us) i) {x = k} {y = k - 1 + 1} (omega arith)
            ∙ before_next us (k - 1) in
            λ h. none (k - 1 - at) (omega (arith, there, last, h.0)) (omega (arith, there, last, h.1))
        | inr l ↦ let e : k ≡ at = omega arith in λ h. before (subst (λ i. IsHighSurrogate (slice_index (0 ∷ us) i)) e h)
      ] in
      (λ h. absurd (not_low h), λ h. absurd (not_high h));
}

-- ---- Latin1
lead_decided : (b : ℕ) → (0xC0 ≤ b) ⊎ (0xC0 ≤ b → ⊥)
lead_decided b = elim (cases_lt b 0xC0) [ inl l ↦ inr (λ h. omega arith) | inr l ↦ inl l ]

abbrev IsLead : ℕ → Type 0
IsLead b = 0xC0 ≤ b

ascii_byte : (b : ℕ) → (IsLead b → ⊥) → (IsContinuation b → ⊥) → b < 0x80
ascii_byte b h l = grind arith

module _ (bs : List ℕ) (n : ℕ) (within : n ≤ length bs) (some : 0 < n) (p : FitLatin1 bs 0 n) where
  abbrev IsLatin1To : ℕ → Type 0
  IsLatin1To k = IsUtf8Latin1 (take k bs)

  one_byte_more : (k : ℕ) → k < n → IsLatin1To k → (IsLead (slice_index bs k) → ⊥) → (IsContinuation (slice_index bs k) → ⊥) → IsLatin1To (k + 1)
  one_byte_more k l v h m = latin1_more_one bs k (omega arith) v (ascii_byte (slice_index bs k) h m)

  two_bytes_more : (k : ℕ) → k + 1 < n → IsLatin1To k → IsLead (slice_index bs k) → IsContinuation (slice_index bs (k + 1)) → IsLatin1To (k + 2)
  two_bytes_more k l v h m = let fits = p.each k (omega arith) (omega arith) in latin1_more_two bs k (omega arith) v (fits.lead h) fits.low m.0 m.1

  pub latin1_whole : (IsLead (slice_index bs (n - 1)) → ⊥) → IsUtf8Latin1 (take n bs)
  latin1_whole = whole_prefix IsLead IsContinuation IsLatin1To bs n (λ k l. (p.each k (omega arith) l).follows) lead_decided (λ h. omega arith)
      (λ b h l. omega (arith, h, l.1))
      IsUtf8Latin1-nil one_byte_more two_bytes_more some

  pub latin1_cut : IsLead (slice_index bs (n - 1)) → IsUtf8Latin1 (take (n - 1) bs)
  latin1_cut = cut_prefix IsLead IsContinuation IsLatin1To bs n (λ k l. (p.each k (omega arith) l).follows) lead_decided (λ h. omega arith)
      (λ b h l. omega (arith, h, l.1))
      IsUtf8Latin1-nil one_byte_more two_bytes_more some

pub latin1_joined : (bs : List ℕ) (a b from to : ℕ) → FitLatin1 bs a b → FitLatin1 bs from to → from ≤ b → FitLatin1 bs a to
latin1_joined bs a b from to p q l = record { each = λ k h m. elim (cases_lt k b) [ inl i ↦ p.each k h i | inr i ↦ q.each k (omega arith) m ] }

before_below : (bs : List ℕ) (n k : ℕ) → BelowUpTo 0x80 bs n → k ≤ n → slice_index (0 ∷ bs) k < 0x80
before_below bs n zero low l = omega arith
before_below bs n (suc k) low l = low k (omega arith)

-- an ASCII prefix
pub ascii_fits : (bs : List ℕ) (n : ℕ) → BelowUpTo 0x80 bs n → FitLatin1 bs 0 n
ascii_fits bs n low = record {
  each = λ k from to.
      let here = low k to in
      let before = before_below bs n k low (omega arith) in
      record { low = omega arith; lead = λ h. absurd (omega arith); follows = (λ h. absurd (omega (arith, h.0)), λ h. absurd (omega arith)) };
}

pub ascii_latin1 : (bs : List ℕ) (n : ℕ) → n ≤ length bs → BelowUpTo 0x80 bs n → IsUtf8Latin1 (take n bs)
ascii_latin1 bs zero l low = IsUtf8Latin1-nil
ascii_latin1 bs (suc n) l low =
    let last : slice_index bs (suc n - 1) < 0x80 = low (suc n - 1) (omega arith) in
    latin1_whole bs (suc n) l (omega arith) (ascii_fits bs (suc n) low) (λ h. omega arith)

pub follows_test : (b : ℕ) → b < 256 → eqb (bit_and b 0xC0) 0x80 ≡ (leb 0x80 b && ltb b 0xC0)
follows_test b l = agree_below_at (λ x. eqb (bit_and x 0xC0) 0x80) (λ x. leb 0x80 x && ltb x 0xC0) 256 b refl l

overlong_test : (b : ℕ) → b < 256 → eqb (bit_and b 0xFE) 0xC0 ≡ (leb 0xC0 b && ltb b 0xC2)
overlong_test b l = agree_below_at (λ x. eqb (bit_and x 0xFE) 0xC0) (λ x. leb 0xC0 x && ltb x 0xC2) 256 b refl l

fits_from : (b a : ℕ) → cond (leb 0x80 b && ltb b 0xC0) (not (leb 0xC0 a)) (leb 0xC0 a) || ((leb 0xC0 b && ltb b 0xC2) || leb 0xC4 b) ≡ false → FitsLatin1 a b
fits_from b a e = record {
  low = grind (arith, nat_tests);
  lead = λ h. grind (arith, nat_tests);
  follows = (λ h. grind (arith, nat_tests), λ h. grind (arith, nat_tests));
}

fits_lane : (b a : ℕ) → b < 256 → latin1_fault b a ≡ false → FitsLatin1 a b
fits_lane b a l e = fits_from b a (rw (follows_test b l, overlong_test b l) at e)

pub pairs_fit : (bs : List ℕ) (from to at end : ℕ) → from < at → end ≤ to + 1 → ((k : ℕ) → slice_index bs k < 256)
    → PassBetween (λ k. latin1_fault (slice_index bs (k + 1)) (slice_index bs k) ≡ false) from to
    → FitLatin1 bs at end
pairs_fit bs from to at end o p bytes none = record {
  each = λ k l m.
      let here : k - 1 + 1 ≡ k = omega arith in
      let clean : latin1_fault (slice_index bs k) (slice_index bs (k - 1)) ≡ false = rw here at (none (k - 1) (omega arith) (omega arith)) in
      let last : slice_index (0 ∷ bs) k ≡ slice_index bs (k - 1) = ap (λ i. slice_index (0 ∷ bs) i) (sym here) ∙ before_next bs (k - 1) in
      subst (λ a. FitsLatin1 a (slice_index bs k)) (sym last) (fits_lane (slice_index bs k) (slice_index bs (k - 1)) (bytes k) clean);
}
