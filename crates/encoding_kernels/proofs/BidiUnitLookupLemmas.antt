-- The look-ups of right-to-left code units, lane by lane: a lane that is zero holds none.
use Rattle.std.proofs.Common.{◌≡◌, ℕ, ◌+◌, ◌-◌, ◌*◌, ◌/◌, ◌%◌, ◌^◌, ◌<◌, ◌≤◌, inl, inr, true, ◌==◌, false, eq-eqb, sym, map, List}
use Rattle.std.proofs.Common.{length, replicate, get_or, bit_and, refl, arith, w8, Fits, ◌∙◌, ap, subst, ◌⊎◌, slice_index}
use Rattle.std.proofs.lemmas.Bool.{cases_lt, true≢false}
use Rattle.std.specs.List.{range_with_len}
use Rattle.std.specs.Int.{IsInRange}
use Rattle.std.proofs.lemmas.Simd.{Each1-from_get_or}
use Rattle.std.proofs.lemmas.Nat.{and_mask}
use lib.Lanes.{zip2, chunk, Each1}
use Rattle.encoding_kernels.specs.declared.bidi.units.TheConstants.{FIRST, SECOND, THIRD, FOURTH}
use Rattle.encoding_definitions.specs.Bidi.{IsRightToLeft, IsRightToLeftUnit}
use Rattle.encoding_definitions.proofs.BidiUnitsLemmas.{UnitForm, unit_form}
use Rattle.encoding_kernels.proofs.VectorLemmas.{same_below, HasLanes-zip2, HasLanes_load, HasLanes-splat, HasLanes_same, HasLanes-itself}
use Rattle.encoding_kernels.proofs.Utf8LookupLemmas.{IsLanes, byte, by_nibbles, both_looked_up}
use Rattle.encoding_kernels.specs.Scans.{HasLanes, PassBetween}
use Rattle.encoding_kernels.specs.Following.{IsZeroTo}
use Rattle.encoding_kernels.specs.RightToLeft.{NoneRightToLeft, in_range}
use Rattle.encoding_kernels.proofs.BidiLemmas.{outside}

-- the groups that the four nibbles of a code unit leave, by its upper byte a and its lower byte b
abbrev pub groups : ℕ → ℕ → ℕ
groups a b = bit_and (bit_and (get_or FIRST (a / 16) 0) (get_or SECOND (bit_and a 15) 0)) (bit_and (get_or THIRD (b / 16) 0) (get_or FOURTH (bit_and b 15) 0))

-- the groups other than those of presentation forms
abbrev pub others : ℕ → ℕ → ℕ
others a b = bit_and (groups a b) 0x3F

-- a group is left for each of some lower bytes, checked one by one
row : (left : ℕ → ℕ → ℕ) (a from count : ℕ)
    → map (λ i. left a (from + i) == 0) (range_with_len 0 count) ≡ map (λ _. false) (range_with_len 0 count)
    → (u : ℕ) → u / 256 ≡ a → from ≤ u % 256 → u % 256 < from + count → left (u / 256) (u % 256) ≡ 0 → ⊥
row left a from count checked u upper l h e =
    let i = u % 256 - from in
    let lower : u % 256 ≡ from + i = omega arith in
    let none : left a (from + i) ≡ 0 = subst (λ b. left a b ≡ 0) lower (subst (λ x. left x (u % 256) ≡ 0) upper e) in
    true≢false (sym (eq-eqb _ _ none) ∙ same_below (λ k. left a (from + k) == 0) (λ _. false) true count checked i (omega arith))

in_scripts : (u : ℕ) → 0x590 ≤ u → u ≤ 0x8FF → others (u / 256) (u % 256) ≡ 0 → ⊥
in_scripts u l h e = elim (cases_lt u 0x600) [
  | inl p ↦ row others 5 0x90 0x70 refl u (omega arith) (omega arith) (omega arith) e
  | inr p ↦ elim (cases_lt u 0x700) [
    | inl q ↦ row others 6 0 0x100 refl u (omega arith) (omega arith) (omega arith) e
    | inr q ↦ elim (cases_lt u 0x800) [
      | inl r ↦ row others 7 0 0x100 refl u (omega arith) (omega arith) (omega arith) e
      | inr r ↦ row others 8 0 0x100 refl u (omega arith) (omega arith) (omega arith) e
    ]
  ]
]

in_forms : (u : ℕ) → 0xFB1D ≤ u → u ≤ 0xFDFF → groups (u / 256) (u % 256) ≡ 0 → ⊥
in_forms u l h e = elim (cases_lt u 0xFC00) [
  | inl p ↦ row groups 0xFB 0x1D 0xE3 refl u (omega arith) (omega arith) (omega arith) e
  | inr p ↦ elim (cases_lt u 0xFD00) [
    | inl q ↦ row groups 0xFC 0 0x100 refl u (omega arith) (omega arith) (omega arith) e
    | inr q ↦ row groups 0xFD 0 0x100 refl u (omega arith) (omega arith) (omega arith) e
  ]
]

-- where only groups of forms are left, a right-to-left code unit is one
form_left : (u : ℕ) → u < 2 ^ 16 → IsRightToLeft u → others (u / 256) (u % 256) ≡ 0
    → IsInRange 0xFB1D 0xFDFF u ⊎ IsInRange 0xFE70 0xFEFE u
form_left u l (inl r) e = absurd (in_scripts u r.0 r.1 e)
form_left u l (inr (inl r)) e = absurd (row others 0x20 0x0F 1 refl u (omega arith) (omega arith) (omega arith) e)
form_left u l (inr (inr (inl r))) e = absurd (row others 0x20 0x2B 1 refl u (omega arith) (omega arith) (omega arith) e)
form_left u l (inr (inr (inr (inl r)))) e = absurd (row others 0x20 0x2E 1 refl u (omega arith) (omega arith) (omega arith) e)
form_left u l (inr (inr (inr (inr (inl r))))) e = absurd (row others 0x20 0x67 1 refl u (omega arith) (omega arith) (omega arith) e)
form_left u l (inr (inr (inr (inr (inr (inl r)))))) e = inl r
form_left u l (inr (inr (inr (inr (inr (inr (inl r))))))) e = inr r
form_left u l (inr (inr (inr (inr (inr (inr (inr (inl r)))))))) e = absurd (omega arith)
form_left u l (inr (inr (inr (inr (inr (inr (inr (inr r)))))))) e = absurd (omega arith)

unit_left : (u : ℕ) → u < 2 ^ 16 → UnitForm u → others (u / 256) (u % 256) ≡ 0
    → IsInRange 0xFB1D 0xFDFF u ⊎ IsInRange 0xFE70 0xFEFE u
unit_left u l (inl r) e = form_left u l r e
unit_left u l (inr (inl r)) e = absurd (row others 0xD8 2 2 refl u (omega arith) (omega arith) (omega arith) e)
unit_left u l (inr (inr r)) e = absurd (row others 0xD8 0x3A 2 refl u (omega arith) (omega arith) (omega arith) e)

unit_found : (u : ℕ) → u < 2 ^ 16 → UnitForm u → groups (u / 256) (u % 256) ≡ 0 → ⊥
unit_found u l f e = elim (unit_left u l f (ap (λ g. bit_and g 0x3F) e)) [
  | inl r ↦ in_forms u r.0 r.1 e
  | inr r ↦ row groups 0xFE 0x70 0x8F refl u (omega arith) (omega arith) (omega arith) e
]

in_one_range : (u : ℕ) → u < 2 ^ 16 → UnitForm u → others (u / 256) (u % 256) ≡ 0 → IsInRange 0xFB1D 0xFEFE u
in_one_range u l f e = elim (unit_left u l f e) [
  | inl r ↦ (r.0, omega arith)
  | inr r ↦ (omega arith, r.1)
]

-- ---- lanes
abbrev pub lanes : List ℕ → List ℕ → List ℕ
lanes a b = zip2 bit_and (by_nibbles 32 FIRST SECOND a) (by_nibbles 32 THIRD FOURTH b)

module _ (a b : List ℕ) (A : IsLanes 32 a) (B : IsLanes 32 b) where
  lanes_are : HasLanes 32 (lanes a b) (λ k. groups (get_or a k 0) (get_or b k 0))
  lanes_are =
      let upper = both_looked_up 32 (inr refl) a A FIRST SECOND refl refl refl refl in
      let lower = both_looked_up 32 (inr refl) b B THIRD FOURTH refl refl refl refl in
      HasLanes-zip2 bit_and upper lower

  -- what the code unit of a lane fulfils, by what its two bytes leave
  by_bytes : (P : ℕ → Type 0) (left : ℕ → ℕ → ℕ) → ((u : ℕ) → u < 2 ^ 16 → UnitForm u → left (u / 256) (u % 256) ≡ 0 → P u)
      → (i : ℕ) → i < 32 → left (get_or a i 0) (get_or b i 0) ≡ 0 → IsRightToLeftUnit (get_or b i 0 + 0x100 * get_or a i 0)
      → P (get_or b i 0 + 0x100 * get_or a i 0)
  by_bytes P left shown i l e r =
      let small : get_or b i 0 < 256 = byte 32 b B i l in
      let large : get_or a i 0 < 256 = byte 32 a A i l in
      let u = get_or b i 0 + 0x100 * get_or a i 0 in
      let upper : get_or a i 0 ≡ u / 256 = omega arith in
      let lower : get_or b i 0 ≡ u % 256 = omega arith in
      shown u (omega arith) (unit_form u r) (subst (λ x. left x (u % 256) ≡ 0) upper (subst (λ y. left (get_or a i 0) y ≡ 0) lower e))

  pub lanes_clear : (i : ℕ) → i < 32 → get_or (lanes a b) i 0 ≡ 0 → IsRightToLeftUnit (get_or b i 0 + 0x100 * get_or a i 0) → ⊥
  lanes_clear i l e = by_bytes (λ _. ⊥) groups unit_found i l (sym (lanes_are.each i l) ∙ e)

  pub lanes_left : (i : ℕ) → i < 32 → bit_and (get_or (lanes a b) i 0) 0x3F ≡ 0 → IsRightToLeftUnit (get_or b i 0 + 0x100 * get_or a i 0)
      → IsInRange 0xFB1D 0xFEFE (get_or b i 0 + 0x100 * get_or a i 0)
  lanes_left i l e = by_bytes (IsInRange 0xFB1D 0xFEFE) others in_one_range i l (ap (λ g. bit_and g 0x3F) (sym (lanes_are.each i l)) ∙ e)

  pub lanes_long : length (lanes a b) ≡ 32
  lanes_long = lanes_are.long

-- ---- the upper and the lower byte of each code unit
module _ (at : ℕ) (us : List ℕ) (within : at + 32 ≤ length us) (units : (k : ℕ) → get_or us k 0 < 2 ^ 16) where
  abbrev pub uppers : List ℕ
  uppers = zip2 (λ a b. a / 2 ^ b) (chunk at 32 us) (replicate 32 8)

  abbrev pub lowers : List ℕ
  lowers = zip2 bit_and (chunk at 32 us) (replicate 32 0xFF)

  pub uppers_are : HasLanes 32 uppers (λ k. get_or us (at + k) 0 / 0x100)
  uppers_are = HasLanes-zip2 (λ a b. a / 2 ^ b) (HasLanes_load at 32 us within) (HasLanes-splat 32 8)

  pub lowers_are : HasLanes 32 lowers (λ k. get_or us (at + k) 0 % 0x100)
  lowers_are = HasLanes_same (HasLanes-zip2 bit_and (HasLanes_load at 32 us within) (HasLanes-splat 32 0xFF)) (λ k l. and_mask (get_or us (at + k) 0) 8)

  pub uppers_fit : Each1 (Fits w8) uppers
  uppers_fit = Each1-from_get_or (Fits w8) uppers 0 (λ k l. record { fits = omega (arith, uppers_are.each k (omega (arith, uppers_are.long)), units (at + k)) })

  pub lowers_fit : Each1 (Fits w8) lowers
  lowers_fit = Each1-from_get_or (Fits w8) lowers 0 (λ k l. record { fits = omega (arith, lowers_are.each k (omega (arith, lowers_are.long))) })

-- ---- 32 code units
pub none_in_32 : (us : List ℕ) (at : ℕ) (a b groups : List ℕ) → HasLanes 32 a (λ k. get_or us (at + k) 0 / 0x100)
    → HasLanes 32 b (λ k. get_or us (at + k) 0 % 0x100)
    → ((i : ℕ) → i < 32 → get_or groups i 0 ≡ 0 → IsRightToLeftUnit (get_or b i 0 + 0x100 * get_or a i 0) → ⊥)
    → IsZeroTo groups 32 → NoneRightToLeft us at (at + 32)
none_in_32 us at a b groups upper lower clear zeros = record {
  each = λ k l h r.
      let i = k - at in
      let back : at + i ≡ k = omega arith in
      let unit : get_or us k 0 ≡ get_or b i 0 + 0x100 * get_or a i 0 =
      omega (arith, upper.each i (omega arith), lower.each i (omega arith), ap (λ j. get_or us j 0) back) in
      clear i (omega arith) (zeros.each i (omega arith)) (subst IsRightToLeftUnit unit r);
}

-- the lanes that have only groups of forms hold no right-to-left unit if no unit is in the range of forms
pub none_but_forms : (us : List ℕ) (at : ℕ) (a b groups : List ℕ) → HasLanes 32 a (λ k. get_or us (at + k) 0 / 0x100)
    → HasLanes 32 b (λ k. get_or us (at + k) 0 % 0x100) → ((k : ℕ) → slice_index us k < 2 ^ 16) → length groups ≡ 32
    → ((i : ℕ) → i < 32 → bit_and (get_or groups i 0) 0x3F ≡ 0 → IsRightToLeftUnit (get_or b i 0 + 0x100 * get_or a i 0)
    → IsInRange 0xFB1D 0xFEFE (get_or b i 0 + 0x100 * get_or a i 0))
    → IsZeroTo (zip2 bit_and groups (replicate 32 0x3F)) 32
    → PassBetween (λ k. in_range 0xFB1D 0x03E2 (slice_index us k) ≡ false) at (at + 32) → NoneRightToLeft us at (at + 32)
none_but_forms us at a b groups upper lower units long left zeros none = record {
  each = λ k l h r.
      let i = k - at in
      let back : at + i ≡ k = omega arith in
      let unit : get_or us k 0 ≡ get_or b i 0 + 0x100 * get_or a i 0 =
      omega (arith, upper.each i (omega arith), lower.each i (omega arith), ap (λ j. get_or us j 0) back) in
      let masked = HasLanes-zip2 bit_and (HasLanes-itself 32 groups long) (HasLanes-splat 32 0x3F) in
      let form = left i (omega arith) (sym (masked.each i (omega arith)) ∙ zeros.each i (omega arith)) (subst IsRightToLeftUnit unit r) in
      let over = outside 0xFB1D 0x03E2 (slice_index us k) (omega arith) (units k) (none k l h) in
      omega (arith, unit, form.0, form.1, over);
}
