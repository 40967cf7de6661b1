-- Lanes that the comparisons of several vectors are joined into.
use Rattle.std.proofs.Common.{◌≡◌, ℕ, ◌+◌, ◌-◌, ◌<◌, ◌≤◌, ◌↔◌, cond, leb, inl, inr, List, length}
use Rattle.std.proofs.Common.{get_or, map, replicate, bit_or, ap, ◌∙◌, sym, arith, subst, w8, w16}
use Rattle.std.proofs.lemmas.Bool.{cases_lt}
use Rattle.std.proofs.lemmas.Bool.Decides.{nat_tests}
use Rattle.std.specs.Simd.Lanes.{chunk, zip2, top, sel_l, number_l, digits_l}
use mir.Syntax.{Width}
use mir.Val.{hbits}
use Rattle.encoding_kernels.specs.Following.{IsZeroTo}
use Rattle.encoding_kernels.specs.Scans.{HasLanes, AllBelow, JoinsOthers}
use Rattle.encoding_kernels.proofs.VectorLemmas.{HasLanes_load, HasLanes-zip2, HasLanes-splat, HasLanes-itself, compared}
use Rattle.encoding_kernels.proofs.MaskLemmas.{tests_of, chosen, or_zeros, unit_bytes_zero}

abbrev mark : ℕ → ℕ → ℕ → ℕ
mark set bound x = cond (leb bound x) set 0

below : (set bound x : ℕ) → 0 < set → mark set bound x ≡ 0 → x < bound
below set bound x some e = grind (arith, nat_tests)

none : (set bound x : ℕ) → x < bound → mark set bound x ≡ 0
none set bound x l = grind (arith, nat_tests)

small : (set bound x : ℕ) → set < 65536 → mark set bound x < 65536
small set bound x few = grind (arith, nat_tests)

-- the comparison of one vector with the bound
abbrev pub others : Width → ℕ → ℕ → ℕ → ℕ → List ℕ → List ℕ
others w n set bound at xs = sel_l (map (top (hbits w)) (zip2 (compared w leb) (replicate n bound) (chunk at n xs))) (replicate n set) (replicate n 0)

module _ (w : Width) (n set bound at : ℕ) (xs : List ℕ) (some : 0 < set) (room : at + n ≤ length xs) where
  other_lanes : HasLanes n (others w n set bound at xs) (λ k. mark set bound (get_or xs (at + k) 0))
  other_lanes = chosen set 0 (tests_of w leb (HasLanes-splat n bound) (HasLanes_load at n xs room))

  zero_others : IsZeroTo (others w n set bound at xs) n ↔ AllBelow bound xs at n
  zero_others = (
    λ z k from to. subst (λ j. get_or xs j 0 < bound) {x = at + (k - at)} {y = k} (omega arith)
        (below set bound _ some (sym (other_lanes.each (k - at) (omega arith)) ∙ z.each (k - at) (omega arith))),
    λ h. record { each = λ k l. other_lanes.each k l ∙ none set bound _ (h (at + k) (omega arith) (omega arith)) },
  )

-- the lanes of two vectors, the second of the units that follow
pub others_join : {bound at n m : ℕ} {xs a b : List ℕ} → JoinsOthers bound xs at n a → JoinsOthers bound xs (at + n) m b
    → JoinsOthers bound xs at (n + m) (zip2 bit_or a b)
others_join {bound} {at} {n} {m} {xs} {a} {b} p q =
    let lanes = HasLanes-zip2 bit_or (HasLanes-itself 32 a p.long) (HasLanes-itself 32 b q.long) in
    record {
      long = lanes.long;
      zero = (
        λ z k from to. let both = or_zeros 32 a b p.long q.long z in elim (cases_lt k (at + n)) [
          | inl l ↦ p.zero.0 both.0 k from l
          | inr l ↦ q.zero.0 both.1 k l (omega arith)
        ],
        λ h. record {
          each = λ i l.
              let first = (p.zero.1 (λ k from to. h k from (omega arith))).each i l in
              let second = (q.zero.1 (λ k from to. h k (omega arith) (omega arith))).each i l in
              lanes.each i l ∙ ap (λ x. bit_or x (get_or b i 0)) first ∙ ap (bit_or 0) second;
        },
      );
    }

pub byte_others : (bound at : ℕ) (bs : List ℕ) → at + 32 ≤ length bs → JoinsOthers bound bs at 32 (others w8 32 0xFF bound at bs)
byte_others bound at bs room = let some : 0 < 0xFF = omega arith in record {
  long = (other_lanes w8 32 0xFF bound at bs some room).long;
  zero = zero_others w8 32 0xFF bound at bs some room;
}

-- the bytes of the comparisons of 32 code units
pub unit_others : (bound at : ℕ) (us : List ℕ) → at + 32 ≤ length us
    → IsZeroTo (digits_l 256 64 (number_l 65536 (others w16 32 0xFFFF bound at us))) 64 ↔ AllBelow bound us at 32
unit_others bound at us room =
    let some : 0 < 0xFFFF = omega arith in
    let is = zero_others w16 32 0xFFFF bound at us some room in
    let bytes = unit_bytes_zero _ _ (other_lanes w16 32 0xFFFF bound at us some room) (λ k l. small 0xFFFF bound _ (omega arith)) in
    (λ t. is.0 (bytes.0 t), λ h. bytes.1 (is.1 h))
