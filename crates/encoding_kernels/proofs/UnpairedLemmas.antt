-- The number of unpaired surrogates, as that of the faults between neighbors, with a low surrogate at the start as one
-- more.
use Rattle.std.proofs.Common.{◌≡◌, ℕ, zero, suc, ◌+◌, ◌-◌, ◌^◌, ◌<◌, ◌≤◌, ◌↔◌, IsTrue, inl, inr, Bool, true, false, not, cond, eqb, bit_and, bit_xor}
use Rattle.std.proofs.Common.{List, [], ◌∷◌, ◌++◌, length, drop, map, replicate, slice_index, Fits, w8, w16, refl, sym, ap, ◌∙◌, arith, subst}
use Rattle.std.specs.Simd.Lanes.{Each1, sel_l, top, zip2}
use Rattle.std.specs.List.{flat_map}
use Rattle.std.proofs.lemmas.Bool.{cases_lt}
use Rattle.std.proofs.lemmas.List.{get_or-drop}
use Rattle.std.proofs.lemmas.Simd.{Each1-from_get_or}
use Rattle.std.proofs.str.Utf16.{one_unit}
use lib.Utf8.{scalar_cases}
use mir.Val.{bool_byte}
use Rattle.encoding_definitions.specs.Surrogates.{unpaired_count, HasUnpaired}
use Rattle.encoding_definitions.specs.FirstScalar.{BeginsLow, IsFirstPart16}
use Rattle.encoding_definitions.specs.Utf16.{AreCodeUnits, IsHighSurrogate, IsLowSurrogate, Part16, Character16}
use Rattle.encoding_definitions.specs.Utf16.{Unpaired, units_of_part16, ArePaired, ArePartsOf16}
use Rattle.encoding_definitions.proofs.Latin1Lemmas.{at_drop_start}
use Rattle.encoding_definitions.proofs.UnpairedCountLemmas.{unpaired_count-cons, AreCodeUnits-after}
use Rattle.encoding_definitions.proofs.Utf16Lemmas.{parts_of, parts_exist, halves, first_of_parts, tail_paired}
use Rattle.encoding_kernels.specs.Scans.{HasLanes}
use Rattle.encoding_kernels.specs.Lengths.{sum_over_suffixes}
use Rattle.encoding_kernels.specs.Counts.{begins_fault, bool_few}
use Rattle.encoding_kernels.specs.Neighbors.{pair_fault}
use Rattle.encoding_kernels.proofs.VectorLemmas.{HasLanes-itself, HasLanes_same, HasLanes-splat, HasLanes-zip2, compared}
use Rattle.encoding_kernels.proofs.MaskLemmas.{chosen, tests_of, tests_xor}
use Rattle.encoding_kernels.proofs.SumLemmas.{one_or_none, total_next, total_from}
use Rattle.encoding_kernels.proofs.SurrogatePairsLemmas.{high_test, low_test}

-- ---- the lanes
-- the selection of one for a fault
abbrev pub fault_vector : ℕ → List ℕ → List ℕ → List ℕ
fault_vector n us vs =
    let low = zip2 (compared w16 eqb) (zip2 bit_and us (replicate n 0xFC00)) (replicate n 0xDC00) in
    let high = zip2 (compared w16 eqb) (zip2 bit_and vs (replicate n 0xFC00)) (replicate n 0xD800) in
    sel_l (map (top 15) (zip2 bit_xor low high)) (replicate n 1) (replicate n 0)

module _ (n : ℕ) (us vs : List ℕ) (p : length us ≡ n) (q : length vs ≡ n) where
  pub faults_are : HasLanes n (fault_vector n us vs) (λ k. bool_byte (pair_fault (slice_index us k) (slice_index vs k)))
  faults_are =
      let low = tests_of w16 eqb (HasLanes-zip2 bit_and (HasLanes-itself n us p) (HasLanes-splat n 0xFC00)) (HasLanes-splat n 0xDC00) in
      let high = tests_of w16 eqb (HasLanes-zip2 bit_and (HasLanes-itself n vs q) (HasLanes-splat n 0xFC00)) (HasLanes-splat n 0xD800) in
      HasLanes_same (chosen 1 0 (tests_xor low high)) (λ k l. one_or_none (pair_fault (slice_index us k) (slice_index vs k)))

  pub faults_fit : Each1 (Fits w8) (fault_vector n us vs)
  faults_fit = Each1-from_get_or (Fits w8) (fault_vector n us vs) 0
      (λ k l. record {
        fits = omega (arith, faults_are.each k (omega (arith, faults_are.long)), bool_few (pair_fault (slice_index us k) (slice_index vs k)));
      })

-- ---- the terms of an index
pub term_fault : (us : List ℕ) (i : ℕ) → begins_fault (drop i us) ≡ bool_byte (pair_fault (slice_index us (i + 1)) (slice_index us i))
term_fault us i = λ k. bool_byte (pair_fault (get_or-drop i us 1 0 k) (at_drop_start us i k))

-- 1 for a low surrogate
abbrev pub low_bit : ℕ → ℕ
low_bit u = bool_byte (eqb (bit_and u 0xFC00) 0xDC00)

is_false : (b : Bool) → (b ≡ true → ⊥) → b ≡ false
is_false true h = absurd (h refl)
is_false false h = refl

after_other : (low high : Bool) → high ≡ false → bool_byte (cond low (not high) high) ≡ bool_byte low
after_other true true e = sym (ap bool_byte e)
after_other true false e = refl
after_other false true e = ap bool_byte e
after_other false false e = refl

after_high : (low high : Bool) → high ≡ true → bool_byte (cond low (not high) high) + bool_byte low ≡ 1
after_high true true e = refl
after_high true false e = absurd (omega (arith, ap bool_byte e))
after_high false true e = refl
after_high false false e = absurd (omega (arith, ap bool_byte e))

-- a fault after a unit that is no high surrogate, and after one that is
fault_low : (v u : ℕ) → u < 2 ^ 16 → (IsHighSurrogate u → ⊥) → bool_byte (pair_fault v u) ≡ low_bit v
fault_low v u l n = after_other (eqb (bit_and v 0xFC00) 0xDC00) (eqb (bit_and u 0xFC00) 0xD800) (is_false _ (λ e. n ((high_test u l).0 e)))

fault_high : (v u : ℕ) → u < 2 ^ 16 → IsHighSurrogate u → bool_byte (pair_fault v u) + low_bit v ≡ 1
fault_high v u l h = after_high (eqb (bit_and v 0xFC00) 0xDC00) (eqb (bit_and u 0xFC00) 0xD800) ((high_test u l).1 h)

not_low : (v : ℕ) → v < 2 ^ 16 → (IsLowSurrogate v → ⊥) → low_bit v ≡ 0
not_low v l n = ap bool_byte (is_false _ (λ e. n ((low_test v l).0 e)))

is_low : (v : ℕ) → v < 2 ^ 16 → IsLowSurrogate v → low_bit v ≡ 1
is_low v l h = ap bool_byte ((low_test v l).1 h)

pub low_first : (r : Bool) (u : ℕ) → u < 2 ^ 16 → (IsTrue r ↔ IsLowSurrogate u) → bool_byte r ≡ low_bit u
low_first true u l h = sym (is_low u l (h.0 refl))
low_first false u l h = sym (not_low u l (λ k. absurd (omega (arith, ap bool_byte (h.1 k)))))

-- ---- units below the surrogates
skipped : (us : List ℕ) (n at : ℕ) → at + n < length us → ((k : ℕ) → at ≤ k → k < at + n + 1 → slice_index us k < 0xD800)
    → sum_over_suffixes begins_fault (drop (at + n) us) ≡ sum_over_suffixes begins_fault (drop at us)
skipped us zero at l h = let e : at + 0 ≡ at = omega arith in ap (total_from begins_fault us) e
skipped us (suc n) at l h =
    let e : at + suc n ≡ at + 1 + n = omega arith in
    let more = skipped us n (at + 1) (omega arith) (λ k from to. h k (omega arith) (omega arith)) in
    let here : slice_index us at < 0xD800 = h at (omega arith) (omega arith) in
    let next : slice_index us (at + 1) < 0xD800 = h (at + 1) (omega arith) (omega arith) in
    omega (
      arith,
      ap (total_from begins_fault us) e,
      more,
      term_fault us at,
      fault_low (slice_index us (at + 1)) (slice_index us at) (omega (arith, here)) (λ k. omega (arith, k.0, here)),
      not_low (slice_index us (at + 1)) (omega (arith, next)) (λ k. omega (arith, k.0, next)),
      total_next begins_fault us at (omega arith),
    )

pub skipped_faults : (us : List ℕ) (from end : ℕ) → from < end → end ≤ length us
    → ((k : ℕ) → from ≤ k → k < end → slice_index us k < 0xD800)
    → sum_over_suffixes begins_fault (drop (end - 1) us) ≡ sum_over_suffixes begins_fault (drop from us)
skipped_faults us from end order room h =
    let n = end - 1 - from in
    let e : from + n ≡ end - 1 = omega arith in
    sym (ap (total_from begins_fault us) e) ∙ skipped us n from (omega arith) (λ k a b. h k a (omega arith))

-- ---- the unpaired surrogates
part_faults : (us : List ℕ) (p : Part16) (rest : List ℕ) → AreCodeUnits us → IsFirstPart16 us p rest
    → low_bit (slice_index us 0) + sum_over_suffixes begins_fault us ≡ unpaired_count (p ∷ [])
    + (low_bit (slice_index rest 0) + sum_over_suffixes begins_fault rest)
unfolding sum_over_suffixes
part_faults us (Character16 c) rest a (s, e) = elim (cases_lt c 0x10000) [
  | inl l ↦ let whole : us ≡ c ∷ rest = e ∙ ap (λ xs. xs ++ rest) (one_unit c l) in
      let apart = scalar_cases c s in
      rw whole (omega (
        arith,
        not_low c (omega arith) (λ h. elim apart [ inl k ↦ omega (arith, h.0) | inr k ↦ omega (arith, h.1) ]),
        fault_low (slice_index rest 0) c (omega arith) (λ h. elim apart [ inl k ↦ omega (arith, h.0) | inr k ↦ omega (arith, h.1) ]),
      ))
  | inr l ↦ let two = halves c l s in
      let whole : us ≡ two.0 ∷ two.1 ∷ rest = e ∙ ap (λ xs. xs ++ rest) two.3 in
      let pair = two.2 in
      rw whole (omega (
        arith,
        not_low two.0 (omega (arith, pair.1)) (λ h. omega (arith, h.0, pair.1)),
        fault_high two.1 two.0 (omega (arith, pair.1)) (pair.0, omega (arith, pair.1)),
        is_low two.1 (omega (arith, pair.3)) (pair.2, omega (arith, pair.3)),
        fault_low (slice_index rest 0) two.1 (omega (arith, pair.3)) (λ h. omega (arith, h.1, pair.2)),
      ))
]
part_faults us (Unpaired u) rest a (inl h, e, n) =
    let next : slice_index rest 0 < 0x10000 = subst AreCodeUnits e a 1 in
    rw e (omega (
      arith,
      not_low u (omega (arith, h.1)) (λ k. omega (arith, k.0, h.1)),
      fault_high (slice_index rest 0) u (omega (arith, h.1)) h,
      not_low (slice_index rest 0) (omega (arith, next)) (not_begun rest (n h)),
    ))
  where
    not_begun : (vs : List ℕ) → (BeginsLow vs → ⊥) → IsLowSurrogate (slice_index vs 0) → ⊥
    not_begun [] m k = omega (arith, k.0)
    not_begun (v ∷ vs) m k = m k
part_faults us (Unpaired u) rest a (inr h, e, n) =
    rw e (omega (
      arith,
      is_low u (omega (arith, h.1)) h,
      fault_low (slice_index rest 0) u (omega (arith, h.1)) (λ k. omega (arith, k.1, h.0)),
    ))

pub faults_total : (us : List ℕ) (ps : List Part16) → AreCodeUnits us → ArePartsOf16 us ps
    → low_bit (slice_index us 0) + sum_over_suffixes begins_fault us ≡ unpaired_count ps
unfolding sum_over_suffixes
faults_total us ps a h =
    subst (λ xs. low_bit (slice_index xs 0) + sum_over_suffixes begins_fault xs ≡ unpaired_count ps) h.1
    (by_parts ps h.0 (subst AreCodeUnits (sym h.1) a))
  where
    by_parts : (ps : List Part16) → ArePaired ps → AreCodeUnits (flat_map units_of_part16 ps)
        → low_bit (slice_index (flat_map units_of_part16 ps) 0) + sum_over_suffixes begins_fault (flat_map units_of_part16 ps) ≡ unpaired_count ps
    by_parts [] h a = refl
    by_parts (p ∷ ps) h a =
        let rest = flat_map units_of_part16 ps in
        omega (
          arith,
          by_parts ps (tail_paired p ps h) (AreCodeUnits-after (units_of_part16 p) rest a),
          part_faults (flat_map units_of_part16 (p ∷ ps)) p rest a (first_of_parts p ps h),
          unpaired_count-cons p ps,
        )

pub unpaired_sum : (us : List ℕ) (first sum : ℕ) → AreCodeUnits us → first ≡ low_bit (slice_index us 0) → sum ≡ sum_over_suffixes begins_fault us
    → HasUnpaired us (first + sum)
unpaired_sum us first sum a e f =
    let are = parts_exist us a in
    (parts_of us, are, omega (arith, e, f, faults_total us (parts_of us) a are))
