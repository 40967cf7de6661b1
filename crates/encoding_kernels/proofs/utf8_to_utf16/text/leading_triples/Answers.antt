use Rattle.std.proofs.Common.{◌≡◌, ℕ, ◌+◌, ◌-◌, ◌*◌, ◌/◌, ◌<◌, ◌≤◌, ◌⊎◌, ◌∙◌, Bool, List, Fits, ap, arith}
use Rattle.std.proofs.Common.{bit_and, cond, eqb, false, get_or, inl, inr, length, not, refl, sym, true, w8}
use Rattle.std.proofs.lemmas.Bool.{true≢false, cases_Bool, cases_lt, eqb-true}
use Rattle.encoding_kernels.specs.EndingUnits.{BeginsThree}
use Rattle.encoding_kernels.specs.declared.utf8_to_utf16.text.TheConstants.{LEAD_BITS, LEAD_VALUES, LATER_BITS, LATER_VALUES}
use Rattle.encoding_kernels.proofs.GroupLemmas.{three_from, three_none}
use Rattle.encoding_kernels.proofs.MaskLemmas.{run_is_first, tests_of}
use Rattle.encoding_kernels.proofs.VectorLemmas.{HasLanes-itself, HasLanes-zip2, HasLanes_load, IsFirstSet, compared, mask_of, same_below}
use Rattle.encoding_kernels.proofs.utf8_to_utf16.text.leading_triples.Goals as goal
use Rattle.encoding_kernels.proofs.utf8_to_utf16.text.leading_triples.Goals.{then-before-lt16, else-before-lt16}
use lib.Count.{count_trailing_zeros}
use lib.Lanes.{zip2, chunk}
use mir.Val.{hbits}

-- whether the byte at k of the sixteen from `at` on is none that begins three, where one is to
abbrev other : List ℕ → ℕ → List ℕ → List ℕ → ℕ → Bool
other src at bits values k = not (eqb (bit_and (get_or src (at + k) 0) (get_or bits k 0)) (get_or values k 0))

abbrev mask : List ℕ → ℕ → List ℕ → List ℕ → ℕ
mask src at bits values = mask_of (hbits w8) (zip2 (compared w8 (λ a b. not (eqb a b))) (zip2 bit_and (chunk at 16 src) bits) values)

run : (src : List ℕ) (at : ℕ) (bits values : List ℕ) → at + 16 ≤ length src → length bits ≡ 16 → length values ≡ 16
    → (r : ℕ) → (mask src at bits values ≡ 0 → r ≡ 16) → (0 < mask src at bits values → r ≡ count_trailing_zeros 64 (mask src at bits values))
    → IsFirstSet 16 r (other src at bits values)
run src at bits values room b v =
    run_is_first (tests_of w8 (λ a b. not (eqb a b)) (HasLanes-zip2 bit_and (HasLanes_load at 16 src room) (HasLanes-itself 16 bits b))
    (HasLanes-itself 16 values v)) (omega arith)

-- a byte that isn't as it is to be: only where bits are tested
fails : (b bits value place : ℕ) → b < 256 → bits ≡ cond (eqb bits 0xF0) 0xF0 0 → value ≡ cond (eqb bits 0xF0) 0xE0 0
    → place ≡ cond (eqb bits 0xF0) (3 * (place / 3)) place → not (eqb (bit_and b bits) value) ≡ true
    → (3 * (place / 3) ≡ place) × (BeginsThree b → ⊥)
fails b bits value place l as_bits as_value as_place e = elim (cases_Bool (eqb bits 0xF0)) [
  | inl t ↦ (
    sym (as_place ∙ ap (λ c. cond c (3 * (place / 3)) place) t),
    three_none b l
        ((λ i. not (eqb (bit_and b (sym (eqb-true _ _ t) i)) (sym (as_value ∙ ap (λ c. cond c 0xE0 0) t) i))) ∙ e),
  )
  | inr f ↦
      let none = (λ i. not (eqb (bit_and b (sym (as_bits ∙ ap (λ c. cond c 0xF0 0) f) i)) (sym (as_value ∙ ap (λ c. cond c 0xE0 0) f) i)))
      ∙ e in
      absurd (true≢false (sym none ∙ same_below (λ k. not (eqb (bit_and k 0) 0)) (λ _. false) false 256 refl b l))
]

-- where the characters of three bytes end
abbrev Ends : ℕ → ℕ → ℕ → Type 0
Ends before later end = ((before < 16) × (end ≡ before)) ⊎ ((16 ≤ before) × (end ≡ 8 + later))

module _ (src : List ℕ) (bytes : (k : ℕ) → Fits w8 (get_or src k 0)) (room : 24 ≤ length src) (before later end : ℕ)
    (no_first : mask src 0 LEAD_BITS LEAD_VALUES ≡ 0 → before ≡ 16)
    (some_first : 0 < mask src 0 LEAD_BITS LEAD_VALUES → before ≡ count_trailing_zeros 64 (mask src 0 LEAD_BITS LEAD_VALUES))
    (no_later : mask src 8 LATER_BITS LATER_VALUES ≡ 0 → later ≡ 16)
    (some_later : 0 < mask src 8 LATER_BITS LATER_VALUES → later ≡ count_trailing_zeros 64 (mask src 8 LATER_BITS LATER_VALUES))
    (ends : Ends before later end) where
  first : IsFirstSet 16 before (other src 0 LEAD_BITS LEAD_VALUES)
  first = run src 0 LEAD_BITS LEAD_VALUES (omega arith) refl refl before no_first some_first

  second : IsFirstSet 16 later (other src 8 LATER_BITS LATER_VALUES)
  second = run src 8 LATER_BITS LATER_VALUES (omega arith) refl refl later no_later some_later

  early : (k : ℕ) → 3 * k < before → BeginsThree (get_or src (3 * k) 0)
  early k m =
      let six : k < 6 = omega (arith, first.within, m) in
      let there : 0 + 3 * k ≡ 3 * k = omega arith in
      three_from (get_or src (3 * k) 0) (bytes (3 * k)).fits
      (sym (λ i. not (eqb (bit_and (get_or src (there i) 0) (same_below (λ j. get_or LEAD_BITS (3 * j) 0) (λ _. 0xF0) 0 6 refl k six i))
      (same_below (λ j. get_or LEAD_VALUES (3 * j) 0) (λ _. 0xE0) 0 6 refl k six i))) ∙ first.before (3 * k) m)

  late : (k : ℕ) → 6 ≤ k → 3 * k < 8 + later → BeginsThree (get_or src (3 * k) 0)
  late k from m =
      let j = k - 6 in
      let two : j < 2 = omega (arith, second.within, m) in
      let there : 8 + (3 * j + 10) ≡ 3 * k = omega arith in
      three_from (get_or src (3 * k) 0) (bytes (3 * k)).fits
      (sym (λ i. not (eqb (bit_and (get_or src (there i) 0) (same_below (λ m. get_or LATER_BITS (3 * m + 10) 0) (λ _. 0xF0) 0 2 refl j two i))
      (same_below (λ m. get_or LATER_VALUES (3 * m + 10) 0) (λ _. 0xE0) 0 2 refl j two i))) ∙ second.before (3 * j + 10) (omega (arith, m)))

  first_fails : before < 16 → (3 * (before / 3) ≡ before) × (BeginsThree (get_or src before 0) → ⊥)
  first_fails l =
      let there : 0 + before ≡ before = omega arith in
      fails _ (get_or LEAD_BITS before 0) (get_or LEAD_VALUES before 0) before (bytes before).fits
      (same_below (λ k. get_or LEAD_BITS k 0) (λ k. cond (eqb (get_or LEAD_BITS k 0) 0xF0) 0xF0 0) 0 16 refl before l)
      (same_below (λ k. get_or LEAD_VALUES k 0) (λ k. cond (eqb (get_or LEAD_BITS k 0) 0xF0) 0xE0 0) 0 16 refl before l)
      (same_below (λ k. k) (λ k. cond (eqb (get_or LEAD_BITS k 0) 0xF0) (3 * (k / 3)) k) 0 16 refl before l)
      (sym (λ i. not (eqb (bit_and (get_or src (there i) 0) (get_or LEAD_BITS before 0)) (get_or LEAD_VALUES before 0))) ∙ first.found l)

  second_fails : later < 16 → (3 * ((8 + later) / 3) ≡ 8 + later) × (BeginsThree (get_or src (8 + later) 0) → ⊥)
  second_fails l = fails _ (get_or LATER_BITS later 0) (get_or LATER_VALUES later 0) (8 + later) (bytes (8 + later)).fits
      (same_below (λ k. get_or LATER_BITS k 0) (λ k. cond (eqb (get_or LATER_BITS k 0) 0xF0) 0xF0 0) 0 16 refl later l)
      (same_below (λ k. get_or LATER_VALUES k 0) (λ k. cond (eqb (get_or LATER_BITS k 0) 0xF0) 0xE0 0) 0 16 refl later l)
      (same_below (λ k. 8 + k) (λ k. cond (eqb (get_or LATER_BITS k 0) 0xF0) (3 * ((8 + k) / 3)) (8 + k)) 0 16 refl later l) (second.found l)

  stops : end / 3 < 8 → BeginsThree (get_or src (3 * (end / 3)) 0) → ⊥
  stops l three = elim ends [
    | inl w ↦
        let fails = first_fails w.0 in
        let here : 3 * (end / 3) ≡ before = omega (arith, w.1, fails.0) in
        fails.1 (rw here at three)
    | inr w ↦
        let fails = second_fails (omega (arith, w.1, l)) in
        let here : 3 * (end / 3) ≡ 8 + later = omega (arith, w.1, fails.0) in
        fails.1 (rw here at three)
  ]

  leading : (end / 3 ≤ 8) × ((k : ℕ) → k < end / 3 → BeginsThree (get_or src (3 * k) 0))
      × (end / 3 < 8 → BeginsThree (get_or src (3 * (end / 3)) 0) → ⊥)
  leading = (
    omega (arith, ends, first.within, second.within),
    λ k l. elim ends [
      | inl w ↦ early k (omega (arith, w.1, l))
      | inr w ↦ elim (cases_lt k 6) [ inl b ↦ early k (omega (arith, w, b)) | inr b ↦ late k b (omega (arith, w, l)) ]
    ],
    stops,
  )

pub overflow_add-end : goal.overflow_add-end
overflow_add-end c =
    let later = c.run_before-before_later in
    let last =
    run c.args.src.now 8 LATER_BITS LATER_VALUES
    (omega (arith, c.requires)) refl refl later.result later.ensures.none_failing later.ensures.first_failing in
    omega (arith, last.within)

pub returns : goal.returns
returns c =
    let first = c.run_before-before in
    let later = c.run_before-before_later in
    let found = leading c.args.src.now c.type_inv.src (omega (arith, c.requires)) first.result later.result c.if-before-lt16.end
    first.ensures.none_failing first.ensures.first_failing later.ensures.none_failing later.ensures.first_failing
    (elim c.if-before-lt16.branch [
      | then-before-lt16 w ↦ inl (omega (arith, w.if-before-lt16), w.end-is)
      | else-before-lt16 w ↦ inr (omega (arith, w.if-before-lt16), w.end-is)
    ]) in
    record { within = found.0; triples = found.1; stops = found.2 }
