-- Masks as tests of lanes: combined, used to select, and what holds if no lane passes. Lanes that are zero, and whether
-- sixteen code units are below a power of two: the bits from it on, joined, are zero.
use Rattle.std.proofs.Common.{◌≡◌, ℕ, ◌-◌, ◌^◌, ◌+◌, ◌<◌, ◌≤◌, ◌↔◌, IsTrue, Bool, true, false, not, cond, ◌&&◌, ◌||◌}
use Rattle.std.proofs.Common.{eqb, leb, ltb, inl, inr, List, length, get_or, map, replicate, bit_and, bit_or, bit_xor}
use Rattle.std.proofs.Common.{refl, sym, ap, ◌∙◌, arith, subst, zero, suc, ◌*◌, ◌/◌, ◌%◌, [], ◌∷◌, Fits, w16, w8}
use Rattle.std.proofs.lemmas.Bool.{cases_lt, false≢true, leb-false, lt-leb, eqb-true, eq-eqb, not-true, not-false, not_from_false, not_from_true}
use Rattle.std.specs.Int.Bits.{and_self, and_zero_l, and_zero_r, or_self, or_zero_l, or_zero_r, xor_self, xor_zero_l, xor_zero_r}
use Rattle.std.specs.Simd.Lanes.{chunk, zip2, top, sel_l, fold_l, Each1, number_l, digits_l}
use Rattle.std.proofs.lemmas.Simd.{trailing_mask_l, Each1-get_or, get_or-zip2, Each1-from_get_or, get_or_wider, get_or-chunk}
use lib.Count.{count_trailing_zeros}
use mir.Syntax.{Width}
use mir.Val.{bits, hbits}
use Rattle.encoding_kernels.specs.Scans.{HasLanes, Marks, PassBetween}
use Rattle.encoding_kernels.proofs.VectorLemmas.{HasLanes_load, HasLanes-zip2, HasLanes-splat, HasLanes-select, HasLanes_same, compared, top_compared}
use Rattle.encoding_kernels.proofs.VectorLemmas.{mask_of, mask_is, IsFirstSet, first_set, first_none, no_bit_from, HasLanes-itself, narrow, sixteen_lanes}
use Rattle.std.proofs.lemmas.Nat.{le_or_l, le_or_r, and_le_l}
use Rattle.std.proofs.lemmas.List.{get_or_past}
use Rattle.std.proofs.lemmas.Nat.Bits.{and_high_mask}
use Rattle.std.proofs.lemmas.Bool.Decides.{nat_tests}
use lib.Lanes.{zip2}
use Rattle.encoding_kernels.specs.Following.{IsZeroTo}

-- lane k of the mask says whether t holds of k: all its bits are set, or none
pub record HasTests (w : Width) (n : ℕ) (mask : List ℕ) (t : ℕ → Bool) : Type 0 where
  pub lanes : HasLanes n mask (λ k. cond (t k) (2 ^ bits w - 1) 0)

-- a comparison of two vectors
pub tests_of : (w : Width) (t : ℕ → ℕ → Bool) {n : ℕ} {a b : List ℕ} {f g : ℕ → ℕ} → HasLanes n a f → HasLanes n b g
    → HasTests w n (zip2 (compared w t) a b) (λ k. t (f k) (g k))
tests_of w t p q = record { lanes = HasLanes-zip2 (compared w t) p q }

and_set : (p q : Bool) (m : ℕ) → bit_and (cond p m 0) (cond q m 0) ≡ cond (p && q) m 0
and_set true true m = and_self m
and_set true false m = and_zero_r m
and_set false q m = and_zero_l (cond q m 0)

or_set : (p q : Bool) (m : ℕ) → bit_or (cond p m 0) (cond q m 0) ≡ cond (p || q) m 0
or_set true true m = or_self m
or_set true false m = or_zero_r m
or_set false q m = or_zero_l (cond q m 0)

xor_set : (p q : Bool) (m : ℕ) → bit_xor (cond p m 0) (cond q m 0) ≡ cond (cond p (not q) q) m 0
xor_set true true m = xor_self m
xor_set true false m = xor_zero_r m
xor_set false q m = xor_zero_l (cond q m 0)

module _ {w : Width} {n : ℕ} {a b : List ℕ} {t s : ℕ → Bool} where
  pub tests_and : HasTests w n a t → HasTests w n b s → HasTests w n (zip2 bit_and a b) (λ k. t k && s k)
  tests_and p q = record { lanes = HasLanes_same (HasLanes-zip2 bit_and p.lanes q.lanes) (λ k l. and_set (t k) (s k) (2 ^ bits w - 1)) }

  pub tests_or : HasTests w n a t → HasTests w n b s → HasTests w n (zip2 bit_or a b) (λ k. t k || s k)
  tests_or p q = record { lanes = HasLanes_same (HasLanes-zip2 bit_or p.lanes q.lanes) (λ k l. or_set (t k) (s k) (2 ^ bits w - 1)) }

  -- exactly one of the two
  pub tests_xor : HasTests w n a t → HasTests w n b s → HasTests w n (zip2 bit_xor a b) (λ k. cond (t k) (not (s k)) (s k))
  tests_xor p q = record { lanes = HasLanes_same (HasLanes-zip2 bit_xor p.lanes q.lanes) (λ k l. xor_set (t k) (s k) (2 ^ bits w - 1)) }

of_tests : (w : Width) {n r : ℕ} {t : ℕ → Bool} → IsFirstSet n r (λ k. top (hbits w) (cond (t k) (2 ^ bits w - 1) 0)) → IsFirstSet n r t
of_tests w {n} {r} {t} first = record {
  within = first.within;
  before = λ k l. sym (top_compared w (t k)) ∙ first.before k l;
  found = λ l. sym (top_compared w (t r)) ∙ first.found l;
}

module _ {w : Width} {n : ℕ} {a : List ℕ} {t : ℕ → Bool} where
  -- `mask.select(Simd::splat(x), Simd::splat(y))`
  pub chosen : (x y : ℕ) → HasTests w n a t → HasLanes n (sel_l (map (top (hbits w)) a) (replicate n x) (replicate n y)) (λ k. cond (t k) x y)
  chosen x y p = HasLanes_same (HasLanes-select (hbits w) p.lanes (HasLanes-splat n x) (HasLanes-splat n y))
      (λ k l. ap (λ b. cond b x y) (top_compared w (t k)))

  -- `mask.select(b, c)`
  pub chosen_by : {b c : List ℕ} {f g : ℕ → ℕ} → HasTests w n a t → HasLanes n b f → HasLanes n c g
      → HasLanes n (sel_l (map (top (hbits w)) a) b c) (λ k. cond (t k) (f k) (g k))
  chosen_by {b} {c} {f} {g} p q r = HasLanes_same (HasLanes-select (hbits w) p.lanes q r) (λ k l. ap (λ x. cond x (f k) (g k)) (top_compared w (t k)))

  -- `mask.to_bitmask()`: if it is 0, no lane passes, and else its lowest bit is the first that does
  pub none_is_first : HasTests w n a t → n ≤ 64 → mask_of (hbits w) a ≡ 0 → IsFirstSet n n t
  none_is_first p few none = of_tests w (first_none (hbits w) p.lanes few none)

  -- `!mask.any()`
  pub none_passes : HasTests w n a t → n ≤ 64 → IsTrue (not (not (eqb (mask_of (hbits w) a) 0))) ↔ ((k : ℕ) → k < n → t k ≡ false)
  none_passes p few = (
    λ e. (none_is_first p few (eqb-true _ 0 (not-false _ (not-true _ e)))).before,
    λ q. not_from_false _ (not_from_true _ (eq-eqb _ 0 (no_bit_from (hbits w) p.lanes few (λ k l. top_compared w (t k) ∙ q k l)))),
  )

  pub lowest_is_first : HasTests w n a t → n ≤ 64 → 0 < mask_of (hbits w) a → IsFirstSet n (count_trailing_zeros 64 (mask_of (hbits w) a)) t
  lowest_is_first p few some =
      let is = mask_is (hbits w) n a p.lanes.long few in
      of_tests w (first_set (hbits w) p.lanes few _ (ap (count_trailing_zeros 64) is
      ∙ trailing_mask_l (top (hbits w)) 64 a (omega (arith, p.lanes.long)) (omega (arith, is))))

  -- both, for the length of a run
  pub run_is_first : HasTests w n a t → n ≤ 64 → (r : ℕ) → (mask_of (hbits w) a ≡ 0 → r ≡ n)
      → (0 < mask_of (hbits w) a → r ≡ count_trailing_zeros 64 (mask_of (hbits w) a)) → IsFirstSet n r t
  run_is_first p few r none some = elim (cases_lt 0 (mask_of (hbits w) a)) [
    | inl l ↦ subst (λ k. IsFirstSet n k t) (sym (some l)) (lowest_is_first p few l)
    | inr l ↦ let e : mask_of (hbits w) a ≡ 0 = omega arith in subst (λ k. IsFirstSet n k t) (sym (none e)) (none_is_first p few e)
  ]

  -- `Marks` for the indices from `at` on, whose tests the lanes are
  pub marks_of : (P : ℕ → Type 0) (at : ℕ) → HasTests w n a t → n ≤ 64 → ((k : ℕ) → k < n → (t k ≡ false) ↔ P (at + k)) → Marks P at n (mask_of (hbits w) a)
  marks_of P at p few is =
      let there = λ (k : ℕ) (from : at ≤ k) (l : k - at < n) (e : t (k - at) ≡ false). subst P {x = at + (k - at)} {y = k} (omega arith)
      ((is (k - at) l).0 e) in
      record {
        none = (
          λ e k from to. there k from (omega arith) ((none_is_first p few e).before (k - at) (omega arith)),
          λ h. no_bit_from (hbits w) p.lanes few (λ k l. top_compared w (t k) ∙ (is k l).1 (h (at + k) (omega arith) (omega arith))),
        );
        lowest = λ some.
            let first = lowest_is_first p few some in
            record {
              within = first.within;
              pass = λ k from to. there k from (omega (arith, first.within)) (first.before (k - at) (omega arith));
              stops = λ l h. false≢true (sym ((is _ l).1 h) ∙ first.found l);
            };
      }

-- a mask that is compared with zero
pub none_marked : {P : ℕ → Type 0} {at n mask : ℕ} → Marks P at n mask → IsTrue (eqb mask 0) ↔ PassBetween P at (at + n)
none_marked {mask = mask} m = (λ t. m.none.0 (eqb-true mask 0 t), λ h. eq-eqb mask 0 (m.none.1 h))

-- `Marks` for the units below a bound
pub marks_below : (w : Width) (n at bound : ℕ) (xs : List ℕ) → at + n ≤ length xs → n ≤ 64
    → Marks (λ k. get_or xs k 0 < bound) at n (mask_of (hbits w) (zip2 (compared w leb) (replicate n bound) (chunk at n xs)))
marks_below w n at bound xs room few =
    marks_of (λ k. get_or xs k 0 < bound) at (tests_of w leb (HasLanes-splat n bound) (HasLanes_load at n xs room)) few
    (λ k l. (leb-false bound _, lt-leb bound _))

-- two tests in one
pub and_both : (a b : Bool) → IsTrue (a && b) → IsTrue a × IsTrue b
and_both true b t = (refl, t)
and_both false b t = absurd (cc)

abbrev joined : ℕ → List ℕ → ℕ
joined = fold_l bit_or

above_start : (a : ℕ) (xs : List ℕ) → a ≤ joined a xs
above_start a [] = omega arith
above_start a (x ∷ xs) = omega (arith, le_or_l a x, above_start (bit_or a x) xs)

above_each : (a : ℕ) (xs : List ℕ) (k : ℕ) → get_or xs k 0 ≤ joined a xs
above_each a [] k = omega arith
above_each a (x ∷ xs) zero = omega (arith, le_or_r a x, above_start (bit_or a x) xs)
above_each a (x ∷ xs) (suc k) = above_each (bit_or a x) xs k

-- ---- lanes that are zero, by words of eight bytes
number_zero : (xs : List ℕ) → number_l 256 xs ≡ 0 → (k : ℕ) → get_or xs k 0 ≡ 0
number_zero [] e k = get_or_past {X = ℕ} [] k 0 (omega arith)
number_zero (x ∷ xs) e zero = omega (arith, e)
number_zero (x ∷ xs) e (suc k) = number_zero xs (omega (arith, e)) k

pub zero_words : (n : ℕ) (xs : List ℕ) → Each1 (Fits w8) xs → joined 0 (digits_l (2 ^ 64) n (number_l 256 xs)) ≡ 0 → IsZeroTo xs (8 * n)
zero_words n xs fits none = record {
  each = λ i l.
      let fit : Each1 (λ x. x < 256) xs = Each1-from_get_or (λ x. x < 256) xs 0 (λ k l. (Each1-get_or (Fits w8) xs k 0 l fits).fits) in
      let j = i / 8 in
      let word : get_or (digits_l (2 ^ 64) n (number_l 256 xs)) j 0 ≡ 0 = omega (arith, above_each 0 (digits_l (2 ^ 64) n (number_l 256 xs)) j, none) in
      let part = number_zero (chunk (8 * j) 8 xs) (sym (get_or_wider 256 8 (2 ^ 64) n xs j refl fit (omega arith)) ∙ word) (i % 8) in
      let place : i ≡ 8 * j + i % 8 = omega arith in
      ap (λ k. get_or xs k 0) place ∙ sym (get_or-chunk (8 * j) 8 xs (i % 8) 0 (omega arith)) ∙ part;
}

zero_number : (p n : ℕ) (xs : List ℕ) → length xs ≡ n → IsZeroTo xs n → number_l p xs ≡ 0
zero_number p n [] long zeros = refl
zero_number p n (x ∷ xs) long zeros =
    let rest : number_l p xs ≡ 0 = zero_number p (n - 1) xs (omega (arith, long)) (record { each = λ k l. zeros.each (suc k) (omega (arith, long)) }) in
    let first : x ≡ 0 = zeros.each zero (omega (arith, long)) in
    rw (first, rest) omega arith

pub words_zero : (xs : List ℕ) → length xs ≡ 32 → IsZeroTo xs 32 → joined 0 (digits_l (2 ^ 64) 4 (number_l 256 xs)) ≡ 0
words_zero xs long zeros = rw (zero_number 256 32 xs long zeros) refl

pub block_words_zero : (xs : List ℕ) → length xs ≡ 64 → IsZeroTo xs 64 → joined 0 (digits_l (2 ^ 64) 8 (number_l 256 xs)) ≡ 0
block_words_zero xs long zeros = rw (zero_number 256 64 xs long zeros) refl

-- the bytes of 32 code units
pub unit_bytes_zero : (us : List ℕ) (f : ℕ → ℕ) → HasLanes 32 us f → ((k : ℕ) → k < 32 → f k < 65536)
    → IsZeroTo (digits_l 256 64 (number_l 65536 us)) 64 ↔ IsZeroTo us 32
unit_bytes_zero us f lanes small = (
  λ zeros. record {
    each = λ k l.
        let bytes = narrow 32 us f lanes small k l in
        omega (arith, lanes.each k l, bytes.0, bytes.1, zeros.each (2 * k) (omega arith), zeros.each (2 * k + 1) (omega arith));
  },
  λ zeros. rw (zero_number 65536 32 us lanes.long zeros) record { each = (HasLanes-splat 64 0).each },
)

module _ (us : List ℕ) (long : length us ≡ 16) (fit : Each1 (Fits w16) us) where
  abbrev pub bits_of : ℕ → List ℕ
  bits_of bits = zip2 bit_and us (replicate 16 bits)

  unit_small : (k : ℕ) → k < 16 → get_or us k 0 < 65536
  unit_small k l = (Each1-get_or (Fits w16) us k 0 (omega (arith, long)) fit).fits

  top_zero : (bits : ℕ) → IsZeroTo (digits_l 256 32 (number_l 65536 (bits_of bits))) 32 → (k : ℕ) → k < 16 → bit_and (get_or us k 0) bits ≡ 0
  top_zero bits none k l =
      let lanes = HasLanes-zip2 bit_and (HasLanes-itself 16 us long) (HasLanes-splat 16 bits) in
      let bytes = sixteen_lanes {words = bits_of bits} {f = λ j. bit_and (get_or us j 0) bits} lanes
      (λ j m. omega (arith, and_le_l (get_or us j 0) bits, unit_small j m)) k l in
      omega (arith, bytes.0, bytes.1, none.each (2 * k) (omega arith), none.each (2 * k + 1) (omega arith))

  pub all_ascii : IsZeroTo (digits_l 256 32 (number_l 65536 (bits_of 0xFF80))) 32 → (k : ℕ) → k < 16 → get_or us k 0 < 0x80
  all_ascii none k l =
      let x = get_or us k 0 in
      let top_bits : bit_and x 0xFF80 ≡ x / 128 * 128 = and_high_mask 16 7 (omega arith) x (unit_small k l) in
      omega (arith, top_bits, top_zero 0xFF80 none k l)

  pub all_two_byte : IsZeroTo (digits_l 256 32 (number_l 65536 (bits_of 0xF800))) 32 → (k : ℕ) → k < 16 → get_or us k 0 < 0x800
  all_two_byte none k l =
      let x = get_or us k 0 in
      let top_bits : bit_and x 0xF800 ≡ x / 2048 * 2048 = and_high_mask 16 11 (omega arith) x (unit_small k l) in
      omega (arith, top_bits, top_zero 0xF800 none k l)

-- ---- lanes that differ from zero
same : (x : ℕ) → not (eqb x 0) ≡ false → x ≡ 0
same x e = grind (arith, nat_tests)

module _ (n : ℕ) (few : n ≤ 64) (xs : List ℕ) (long : length xs ≡ n) where
  abbrev pub zero_mask : ℕ
  zero_mask = mask_of 7 (zip2 (compared w8 (λ a b. not (eqb a b))) xs (replicate n 0))

  tests : HasTests w8 n (zip2 (compared w8 (λ a b. not (eqb a b))) xs (replicate n 0)) (λ k. not (eqb (get_or xs k 0) 0))
  tests = tests_of w8 (λ a b. not (eqb a b)) (HasLanes-itself n xs long) (HasLanes-splat n 0)

  pub zeros_from_mask : zero_mask ≡ 0 → IsZeroTo xs n
  zeros_from_mask e = record { each = λ i l. same _ ((none_is_first tests few e).before i l) }

  pub zeros_before : (r : ℕ) → (zero_mask ≡ 0 → r ≡ n) → (0 < zero_mask → r ≡ count_trailing_zeros 64 zero_mask) → (r ≤ n) × IsZeroTo xs r
  zeros_before r none some = let first = run_is_first tests few r none some in (first.within, record { each = λ i l. same _ (first.before i l) })

-- ---- the lanes of a disjunction
module _ (n : ℕ) (xs ys : List ℕ) (p : length xs ≡ n) (q : length ys ≡ n) where
  or_at : (i : ℕ) → i < n → get_or (zip2 bit_or xs ys) i 0 ≡ bit_or (get_or xs i 0) (get_or ys i 0)
  or_at i l = get_or-zip2 bit_or xs ys i 0 0 0 (omega arith) (omega arith)

  or_left_le : (i : ℕ) → i < n → get_or xs i 0 ≤ get_or (zip2 bit_or xs ys) i 0
  or_left_le i l = omega (arith, or_at i l, le_or_l (get_or xs i 0) (get_or ys i 0))

  or_right_le : (i : ℕ) → i < n → get_or ys i 0 ≤ get_or (zip2 bit_or xs ys) i 0
  or_right_le i l = omega (arith, or_at i l, le_or_r (get_or xs i 0) (get_or ys i 0))

  pub or_zeros : IsZeroTo (zip2 bit_or xs ys) n → IsZeroTo xs n × IsZeroTo ys n
  or_zeros z = (record { each = λ i l. omega (arith, z.each i l, or_left_le i l) }, record { each = λ i l. omega (arith, z.each i l, or_right_le i l) })

-- ---- saturating subtraction of sixteen code units from a splat
abbrev pub wrapped : ℕ → ℕ → ℕ
wrapped a b = (a + (2 ^ 16 - b)) % 2 ^ 16

abbrev pub less_words : ℕ → List ℕ → List ℕ
less_words bound us = zip2 wrapped (sel_l (map (top 15) (zip2 (compared w16 ltb) (replicate 16 bound) us)) us (replicate 16 bound)) us

less_is : (a b : ℕ) → a < 65536 → b < 65536 → wrapped (cond (ltb a b) b a) b ≡ a - b
less_is a b l k = grind (arith, nat_tests)

pub less_lanes : (bound : ℕ) (us : List ℕ) → bound < 65536 → length us ≡ 16 → Each1 (Fits w16) us
    → HasLanes 16 (less_words bound us) (λ k. bound - get_or us k 0)
less_lanes bound us small long fit =
    let units = HasLanes-itself 16 us long in
    let bounds = HasLanes-splat 16 bound in
    HasLanes_same (HasLanes-zip2 wrapped (chosen_by (tests_of w16 ltb bounds units) units bounds) units) (λ k l.
    less_is bound (get_or us k 0) small (Each1-get_or (Fits w16) us k 0 (omega (arith, long)) fit).fits)
