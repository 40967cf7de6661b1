-- Each table of kept indices has, for each mask of eight tests, the indices that the tests keep.
use Rattle.std.proofs.Common.{◌≡◌, ℕ, zero, suc, ◌+◌, ◌*◌, ◌^◌, ◌<◌, Bool, true, false, ◌&&◌, ◌==◌, eqb-true}
use Rattle.std.proofs.Common.{List, [], ◌∷◌, ap, ◌∙◌, length, take, get_or, refl, sym, arith, subst, inl, inr}
use Rattle.std.proofs.lemmas.Bool.{and_parts, cases_lt, ltb-true, false≢true}
use Rattle.std.specs.Simd.Lanes.{mask_l, number_l, digits_l}
use lib.Dec.{ltb}
use Rattle.encoding_kernels.specs.KeptBytes.{kept_places, unit_places}
use Rattle.encoding_kernels.specs.declared.simd.compress.TheConstants.{PLACES, UNIT_PLACES}

-- the sixteen indices of a mask
abbrev pub row : List ℕ → ℕ → List ℕ
row table mask = digits_l 256 16
    (number_l (2 ^ 32) (get_or table (4 * mask) 0 ∷ get_or table (4 * mask + 1) 0 ∷ get_or table (4 * mask + 2) 0 ∷ get_or table (4 * mask + 3) 0 ∷ []))

-- ---- all lists of tests
abbrev all_tests : ℕ → (List Bool → Bool) → Bool
all_tests zero holds = holds []
all_tests (suc n) holds = all_tests n (λ bs. holds (false ∷ bs)) && all_tests n (λ bs. holds (true ∷ bs))

all_tests_at : (n : ℕ) (holds : List Bool → Bool) → all_tests n holds ≡ true → (bs : List Bool) → length bs ≡ n → holds bs ≡ true
all_tests_at zero holds e [] l = e
all_tests_at zero holds e (b ∷ bs) l = absurd (omega arith)
all_tests_at (suc n) holds e [] l = absurd (omega arith)
all_tests_at (suc n) holds e (false ∷ bs) l = all_tests_at n (λ xs. holds (false ∷ xs)) (and_parts _ _ e).0 bs (omega arith)
all_tests_at (suc n) holds e (true ∷ bs) l = all_tests_at n (λ xs. holds (true ∷ xs)) (and_parts _ _ e).1 bs (omega arith)

-- ---- the entry of the table for one list of tests
abbrev same : List ℕ → List ℕ → Bool
same [] [] = true
same [] (y ∷ ys) = false
same (x ∷ xs) [] = false
same (x ∷ xs) (y ∷ ys) = x == y && same xs ys

same_is : (xs ys : List ℕ) → same xs ys ≡ true → xs ≡ ys
same_is [] [] e = refl
same_is [] (y ∷ ys) e = absurd (false≢true e)
same_is (x ∷ xs) [] e = absurd (false≢true e)
same_is (x ∷ xs) (y ∷ ys) e = let parts = and_parts _ _ e in (λ i. eqb-true x y parts.0 i ∷ same_is xs ys parts.1 i)

abbrev below_16 : List ℕ → Bool
below_16 [] = true
below_16 (x ∷ xs) = ltb x 16 && below_16 xs

below_16_at : (xs : List ℕ) → below_16 xs ≡ true → (k : ℕ) → get_or xs k 0 < 16
below_16_at [] e k = omega arith
below_16_at (x ∷ xs) e zero = ltb-true x 16 (and_parts _ _ e).0
below_16_at (x ∷ xs) e (suc k) = below_16_at xs (and_parts _ _ e).1 k

abbrev is_right : List ℕ → (List Bool → List ℕ) → List Bool → Bool
is_right table kept bs = same (take (length (kept bs)) (row table (mask_l bs))) (kept bs)

-- ---- all masks below a bound
abbrev all_masks : ℕ → (ℕ → Bool) → Bool
all_masks zero holds = true
all_masks (suc mask) holds = holds mask && all_masks mask holds

all_masks_at : (n mask : ℕ) (holds : ℕ → Bool) → all_masks n holds ≡ true → mask < n → holds mask ≡ true
all_masks_at zero mask holds e l = absurd (omega arith)
all_masks_at (suc n) mask holds e l = elim (cases_lt mask n) [
  | inl p ↦ all_masks_at n mask holds (and_parts _ _ e).1 p
  | inr p ↦ let same : n ≡ mask = omega arith in subst (λ k. holds k ≡ true) same (and_parts _ _ e).0
]

abbrev is_small : List ℕ → ℕ → Bool
is_small table mask = below_16 (row table mask)

-- all 256 rows are right
pub record IsTable (table : List ℕ) (kept : List Bool → List ℕ) : Type 0 where
  pub keeps : all_tests 8 (is_right table kept) ≡ true
  pub small : all_masks 256 (is_small table) ≡ true

pub kept_table : IsTable PLACES (kept_places 0)
kept_table = record { keeps = refl; small = refl }

pub unit_table : IsTable UNIT_PLACES (unit_places 0)
unit_table = record { keeps = refl; small = refl }

-- ---- the number of indices of four units
abbrev counts_units : List Bool → Bool
counts_units bs = get_or UNIT_PLACES (4 * mask_l bs + 3) 0 == length (unit_places 0 bs)

abbrev are_few : ℕ → Bool
are_few mask = ltb (get_or UNIT_PLACES (4 * mask + 3) 0) 13

module _ (mask w : ℕ) (is : w ≡ get_or UNIT_PLACES (4 * mask + 3) 0) where
  units_counted : (bs : List Bool) → length bs ≡ 8 → mask ≡ mask_l bs → w ≡ length (unit_places 0 bs)
  units_counted bs l m = is ∙ ap (λ k. get_or UNIT_PLACES (4 * k + 3) 0) m ∙ eqb-true _ _ (all_tests_at 8 counts_units refl bs l)

  pub units_few : mask < 256 → w < 13
  units_few l = subst (λ x. x < 13) (sym is) (ltb-true _ 13 (all_masks_at 256 mask are_few refl l))

-- ---- four words of a table
module _ (table : List ℕ) (kept : List Bool → List ℕ) (is : IsTable table kept) (mask x y z w : ℕ)
    (first : x ≡ get_or table (4 * mask) 0) (second : y ≡ get_or table (4 * mask + 1) 0) (third : z ≡ get_or table (4 * mask + 2) 0)
    (fourth : w ≡ get_or table (4 * mask + 3) 0) where
  is_row : digits_l 256 16 (number_l (2 ^ 32) (x ∷ y ∷ z ∷ w ∷ [])) ≡ row table mask
  is_row = λ i. digits_l 256 16 (number_l (2 ^ 32) (first i ∷ second i ∷ third i ∷ fourth i ∷ []))

  pub row_small : mask < 256 → (k : ℕ) → get_or (digits_l 256 16 (number_l (2 ^ 32) (x ∷ y ∷ z ∷ w ∷ []))) k 0 < 16
  row_small l = subst (λ xs. (k : ℕ) → get_or xs k 0 < 16) (sym is_row) (below_16_at (row table mask) (all_masks_at 256 mask (is_small table) is.small l))

  pub row_keeps : (bs : List Bool) → length bs ≡ 8 → mask ≡ mask_l bs
      → take (length (kept bs)) (digits_l 256 16 (number_l (2 ^ 32) (x ∷ y ∷ z ∷ w ∷ []))) ≡ kept bs
  row_keeps bs l m = ap (take (length (kept bs))) (is_row ∙ ap (row table) m) ∙ same_is _ _ (all_tests_at 8 (is_right table kept) is.keeps bs l)

-- the row of four units, up to their number of indices
pub units_keep : (mask x y z w : ℕ) → x ≡ get_or UNIT_PLACES (4 * mask) 0 → y ≡ get_or UNIT_PLACES (4 * mask + 1) 0 → z ≡ get_or UNIT_PLACES (4 * mask + 2) 0
    → w ≡ get_or UNIT_PLACES (4 * mask + 3) 0 → (bs : List Bool) → length bs ≡ 8 → mask ≡ mask_l bs
    → take w (digits_l 256 16 (number_l (2 ^ 32) (x ∷ y ∷ z ∷ w ∷ []))) ≡ unit_places 0 bs
units_keep mask x y z w first second third fourth bs l m =
    ap (λ n. take n (digits_l 256 16 (number_l (2 ^ 32) (x ∷ y ∷ z ∷ w ∷ [])))) (units_counted mask w fourth bs l m)
    ∙ row_keeps UNIT_PLACES (unit_places 0) unit_table mask x y z w first second third fourth bs l m
