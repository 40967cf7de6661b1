use Rattle.std.proofs.Common.{◌≡◌, ℕ, ◌+◌, ◌-◌, ◌*◌, ◌<◌, ◌||◌, ◌∙◌, Bool, true, arith, bit_and, eqb, false, get_or, inl, inr, not, refl, sym, w8}
use Rattle.std.proofs.lemmas.Bool.{true≢false, cases_lt}
use Rattle.encoding_kernels.specs.declared.utf8_to_utf16.text.TheConstants.{LEAD_BITS, LEAD_VALUES, LATER_BITS, LATER_VALUES}
use Rattle.encoding_kernels.proofs.GroupLemmas.{three_from}
use Rattle.encoding_kernels.proofs.VectorLemmas.{HasLanes-itself, HasLanes-zip2, HasLanes_load, same_below}
use Rattle.encoding_kernels.proofs.MaskLemmas.{tests_of, tests_or, none_passes}
use Rattle.encoding_kernels.proofs.utf8_to_utf16.text.begins_triples.Goals as goal

or_false : (p q : Bool) → p || q ≡ false → (p ≡ false) × (q ≡ false)
or_false true q e = absurd (true≢false e)
or_false false q e = (refl, e)

pub returns : goal.returns
returns c t k l =
    let src = c.args.src.now in
    let first = HasLanes-zip2 bit_and (HasLanes_load 0 16 src (omega arith)) (HasLanes-itself 16 LEAD_BITS refl) in
    let later = HasLanes-zip2 bit_and (HasLanes_load 8 16 src (omega arith)) (HasLanes-itself 16 LATER_BITS refl) in
    let tests = tests_or (tests_of w8 (λ a b. not (eqb a b)) first (HasLanes-itself 16 LEAD_VALUES refl))
    (tests_of w8 (λ a b. not (eqb a b)) later (HasLanes-itself 16 LATER_VALUES refl)) in
    let other = λ (j : ℕ). not (eqb (bit_and (get_or src (0 + j) 0) (get_or LEAD_BITS j 0)) (get_or LEAD_VALUES j 0)) in
    let other_later = λ (j : ℕ). not (eqb (bit_and (get_or src (8 + j) 0) (get_or LATER_BITS j 0)) (get_or LATER_VALUES j 0)) in
    let none = λ (j : ℕ) (m : j < 16). or_false (other j) (other_later j) ((none_passes tests (omega arith)).0 t j m) in
    let byte = (c.type_inv.src (3 * k)).fits in
    elim (cases_lt k 6) [
      | inl b ↦
          let there : 0 + 3 * k ≡ 3 * k = omega arith in
          three_from (get_or src (3 * k) 0) byte
          (sym (λ i. not (eqb (bit_and (get_or src (there i) 0) (same_below (λ j. get_or LEAD_BITS (3 * j) 0) (λ _. 0xF0) 0 6 refl k b i))
          (same_below (λ j. get_or LEAD_VALUES (3 * j) 0) (λ _. 0xE0) 0 6 refl k b i))) ∙ (none (3 * k) (omega arith)).0)
      | inr b ↦
          let j = k - 6 in
          let there : 8 + (3 * j + 10) ≡ 3 * k = omega arith in
          three_from (get_or src (3 * k) 0) byte
          (sym (λ i. not (eqb (bit_and (get_or src (there i) 0) (same_below (λ m. get_or LATER_BITS (3 * m + 10) 0) (λ _. 0xF0) 0 2 refl j (omega arith) i))
          (same_below (λ m. get_or LATER_VALUES (3 * m + 10) 0) (λ _. 0xE0) 0 2 refl j (omega arith) i))) ∙ (none (3 * j + 10) (omega arith)).1)
    ]
