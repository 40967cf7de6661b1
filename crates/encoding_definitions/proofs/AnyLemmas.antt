-- An item of a kind in a list: by its index, and in a list that is joined from two.
use Rattle.std.proofs.Common.{ℕ, zero, suc, ◌<◌, ◌⊎◌, inl, inr, List, [], ◌∷◌, ◌++◌, length, slice_index, refl, sym, arith, subst}
use Rattle.std.specs.Prelude.{Any}

module _ {X : Type 0} (P : X → Type 0) where
  pub Any-here : (x : X) (xs : List X) → P x → Any P (x ∷ xs)
  Any-here x xs p = (0, x, omega arith, refl, p)

  pub Any-there : (x : X) (xs : List X) → Any P xs → Any P (x ∷ xs)
  Any-there x xs (k, y, l, e, p) = (suc k, y, omega arith, e, p)

  pub Any-none : Any P [] → ⊥
  Any-none (k, y, l, e, p) = omega arith

  pub Any-cons : (x : X) (xs : List X) → Any P (x ∷ xs) → P x ⊎ Any P xs
  Any-cons x xs (zero, y, l, e, p) = inl (subst P (sym e) p)
  Any-cons x xs (suc k, y, l, e, p) = inr (k, y, omega arith, e, p)

  pub Any-left : (xs ys : List X) → Any P xs → Any P (xs ++ ys)
  Any-left [] ys a = absurd (Any-none a)
  Any-left (x ∷ xs) ys a = elim (Any-cons x xs a) [
    | inl p ↦ Any-here x (xs ++ ys) p
    | inr b ↦ Any-there x (xs ++ ys) (Any-left xs ys b)
  ]

  pub Any-right : (xs ys : List X) → Any P ys → Any P (xs ++ ys)
  Any-right [] ys a = a
  Any-right (x ∷ xs) ys a = Any-there x (xs ++ ys) (Any-right xs ys a)

  pub Any-append : (xs ys : List X) → Any P (xs ++ ys) → Any P xs ⊎ Any P ys
  Any-append [] ys a = inr a
  Any-append (x ∷ xs) ys a = elim (Any-cons x (xs ++ ys) a) [
    | inl p ↦ inl (Any-here x xs p)
    | inr b ↦ elim (Any-append xs ys b) [ inl c ↦ inl (Any-there x xs c) | inr c ↦ inr c ]
  ]

module _ (P : ℕ → Type 0) where
  pub Any-at : (xs : List ℕ) (k : ℕ) → k < length xs → P (slice_index xs k) → Any P xs
  Any-at [] k l p = absurd (omega arith)
  Any-at (x ∷ xs) zero l p = Any-here P x xs p
  Any-at (x ∷ xs) (suc k) l p = Any-there P x xs (Any-at xs k (omega arith) p)

  pub Any-place : (xs : List ℕ) → Any P xs → (k : ℕ) × (k < length xs) × P (slice_index xs k)
  Any-place [] a = absurd (Any-none P a)
  Any-place (x ∷ xs) a = elim (Any-cons P x xs a) [
    | inl p ↦ (0, omega arith, p)
    | inr b ↦ let found = Any-place xs b in (suc found.0, omega (arith, found.1), found.2)
  ]
