-- The look-ups of right-to-left characters in UTF-8, lane by lane: a lane that is zero begins none.
use Rattle.std.proofs.Common.{◌≡◌, ℕ, ◌+◌, ◌-◌, ◌/◌, ◌%◌, ◌<◌, ◌≤◌, inl, inr, true, sym, map, List, ◌++◌, length}
use Rattle.std.proofs.Common.{get_or, slice_index, encode_utf8, bit_and, refl, arith, ◌∙◌, ap, subst, eqb, w8, Fits}
use Rattle.std.proofs.lemmas.Bool.{cases_lt, eqb-true}
use Rattle.std.proofs.lemmas.Nat.Bits.{bit_at-zero, bit_at_and}
use Rattle.std.proofs.str.Laws.{two, three, four}
use Rattle.std.specs.Int.{bit_at}
use Rattle.std.specs.List.{range_with_len}
use lib.Lanes.{zip2, chunk}
use Rattle.encoding_definitions.specs.Bidi.{IsRightToLeft}
use Rattle.encoding_definitions.proofs.BidiTextLemmas.{right_to_left_from}
use Rattle.encoding_kernels.specs.declared.bidi.bytes.TheConstants.{FIRST_HIGH, FIRST_LOW, SECOND_HIGH, SECOND_LOW, THIRD_HIGH, THIRD_LOW}
use Rattle.encoding_kernels.specs.RightToLeft.{RtlAt, NoRtlIn}
use Rattle.encoding_kernels.specs.Scans.{HasLanes}
use Rattle.encoding_kernels.proofs.BidiLemmas.{by_first_three}
use Rattle.encoding_kernels.proofs.VectorLemmas.{same_below, HasLanes-zip2, HasLanes_load}
use Rattle.encoding_kernels.proofs.Utf8LookupLemmas.{IsLanes, by_nibbles, both_looked_up, lanes_fit}

-- the groups that a first, second or third byte leaves
abbrev pub by_first : ℕ → ℕ
by_first a = bit_and (get_or FIRST_HIGH (a / 16) 0) (get_or FIRST_LOW (bit_and a 15) 0)

abbrev pub by_second : ℕ → ℕ
by_second b = bit_and (get_or SECOND_HIGH (b / 16) 0) (get_or SECOND_LOW (bit_and b 15) 0)

abbrev pub by_third : ℕ → ℕ
by_third d = bit_and (get_or THIRD_HIGH (d / 16) 0) (get_or THIRD_LOW (bit_and d 15) 0)

abbrev pub groups : ℕ → ℕ → ℕ → ℕ
groups a b d = bit_and (bit_and (by_first a) (by_second b)) (by_third d)

abbrev Within : ℕ → ℕ → ℕ → Type 0
Within from count x = (from ≤ x) × (x < from + count)

-- the `count` bytes from `from` on leave the group with bit g, checked one by one
abbrev AllLeave : (ℕ → ℕ) → ℕ → ℕ → ℕ → Type 0
AllLeave by g from count = map (λ i. eqb (bit_at (by (from + i)) g) 1) (range_with_len 0 count) ≡ map (λ _. true) (range_with_len 0 count)

leaves : (by : ℕ → ℕ) (g from count : ℕ) → AllLeave by g from count → (x : ℕ) → Within from count x → bit_at (by x) g ≡ 1
leaves by g from count checked x w =
    let i = x - from in
    let back : from + i ≡ x = omega arith in
    subst (λ y. bit_at (by y) g ≡ 1) back (eqb-true _ _ (same_below (λ k. eqb (bit_at (by (from + k)) g) 1) (λ _. true) true count checked i (omega arith)))

-- what all three bytes leave
left_by_all : (g p q r : ℕ) → bit_at p g ≡ 1 → bit_at q g ≡ 1 → bit_at r g ≡ 1 → bit_and (bit_and p q) r ≡ 0 → ⊥
left_by_all g p q r x y z e = omega (arith, bit_at_and (bit_and p q) r g, bit_at_and p q g, ap (λ n. bit_at n g) e, bit_at-zero g, x, y, z)

-- a group is left for each of some first bytes with each of some second and of some third ones
rows : (g a an b bn d dn : ℕ) → AllLeave by_first g a an → AllLeave by_second g b bn → AllLeave by_third g d dn
    → (x y z : ℕ) → Within a an x → Within b bn y → Within d dn z → groups x y z ≡ 0 → ⊥
rows g a an b bn d dn firsts seconds thirds x y z i k m e =
    left_by_all g (by_first x) (by_second y) (by_third z) (leaves by_first g a an firsts x i) (leaves by_second g b bn seconds y k)
    (leaves by_third g d dn thirds z m) e

-- a character of two bytes, with any second and third byte
of_two : (c y z : ℕ) → 0x590 ≤ c → c < 0x800 → y < 256 → z < 256 → groups (192 + c / 64) y z ≡ 0 → ⊥
of_two c y z l h k m = rows 0 0xD6 10 0 256 0 256 refl refl refl (192 + c / 64) y z (omega arith) (omega arith) (omega arith)

-- one of three bytes
abbrev IsLeft : ℕ → Type 0
IsLeft c = groups (224 + c / 4096) (128 + c / 64 % 64) (128 + c % 64) ≡ 0 → ⊥

-- by its first byte and some second and third ones
row : (g a b bn d dn : ℕ) → AllLeave by_first g a 1 → AllLeave by_second g b bn → AllLeave by_third g d dn
    → (c : ℕ) → 224 + c / 4096 ≡ a → Within b bn (128 + c / 64 % 64) → Within d dn (128 + c % 64) → IsLeft c
row g a b bn d dn firsts seconds thirds c i k m =
    rows g a 1 b bn d dn firsts seconds thirds (224 + c / 4096) (128 + c / 64 % 64) (128 + c % 64) (omega (arith, i)) k m

in_forms : (c : ℕ) → 0xFB1D ≤ c → c ≤ 0xFDFF → IsLeft c
in_forms c l h = elim (cases_lt c 0xFC00) [
  | inl p ↦ row 5 0xEF 0xAC 4 0 256 refl refl refl c (omega arith) (omega arith) (omega arith)
  | inr p ↦ row 6 0xEF 0xB0 8 0 256 refl refl refl c (omega arith) (omega arith) (omega arith)
]

of_three : (c : ℕ) → 0x800 ≤ c → c < 0x10000 → IsRightToLeft c → IsLeft c
of_three c l h (inl r) = row 1 0xE0 0xA0 4 0 256 refl refl refl c (omega arith) (omega arith) (omega arith)
of_three c l h (inr (inl r)) = row 2 0xE2 0x80 1 0x8F 1 refl refl refl c (omega arith) (omega arith) (omega arith)
of_three c l h (inr (inr (inl r))) = row 3 0xE2 0x80 1 0xAB 1 refl refl refl c (omega arith) (omega arith) (omega arith)
of_three c l h (inr (inr (inr (inl r)))) = row 3 0xE2 0x80 1 0xAE 1 refl refl refl c (omega arith) (omega arith) (omega arith)
of_three c l h (inr (inr (inr (inr (inl r))))) = row 4 0xE2 0x81 1 0xA7 1 refl refl refl c (omega arith) (omega arith) (omega arith)
of_three c l h (inr (inr (inr (inr (inr (inl r)))))) = in_forms c r.0 r.1
of_three c l h (inr (inr (inr (inr (inr (inr (inl r))))))) = row 6 0xEF 0xB9 3 0 256 refl refl refl c (omega arith) (omega arith) (omega arith)
of_three c l h (inr (inr (inr (inr (inr (inr (inr (inl r)))))))) = absurd (omega arith)
of_three c l h (inr (inr (inr (inr (inr (inr (inr (inr r)))))))) = absurd (omega arith)

-- one of four bytes, by the second, which is b
fours : (b : ℕ) → AllLeave by_second 7 b 1 → (c : ℕ) → 0x10000 ≤ c → c < 0x40000 → 128 + c / 4096 % 64 ≡ b → 0x20 ≤ c / 64 % 64
    → groups (240 + c / 262144) (128 + c / 4096 % 64) (128 + c / 64 % 64) ≡ 0 → ⊥
fours b seconds c l h second third =
    rows 7 0xF0 1 b 1 0xA0 0x20 refl seconds refl (240 + c / 262144) (128 + c / 4096 % 64) (128 + c / 64 % 64)
    (omega arith) (omega (arith, second)) (omega arith)

of_four : (c : ℕ) → 0x10000 ≤ c → IsRightToLeft c → groups (240 + c / 262144) (128 + c / 4096 % 64) (128 + c / 64 % 64) ≡ 0 → ⊥
of_four c l r = elim (cases_lt c 0x11000) [
  | inl p ↦ let from : 0x10800 ≤ c = omega (arith, r) in fours 0x90 refl c l (omega arith) (omega arith) (omega arith)
  | inr p ↦ let from : 0x1E800 ≤ c = omega (arith, r) in
      let to : c ≤ 0x1EFFF = omega (arith, r) in
      fours 0x9E refl c l (omega arith) (omega arith) (omega arith)
]

-- the first three bytes of any
first_leave : (c : ℕ) (rest : List ℕ) → IsRightToLeft c → slice_index (encode_utf8 c ++ rest) 1 < 256 → slice_index (encode_utf8 c ++ rest) 2 < 256
    → groups (slice_index (encode_utf8 c ++ rest) 0) (slice_index (encode_utf8 c ++ rest) 1) (slice_index (encode_utf8 c ++ rest) 2) ≡ 0 → ⊥
first_leave c rest r = elim (cases_lt c 2048) [
  | inl p ↦ rw (two c (omega (arith, right_to_left_from c r)) p) (of_two c _ _ (right_to_left_from c r) p)
  | inr p ↦ elim (cases_lt c 65536) [
    | inl q ↦ rw (three c p q) (λ _ _. of_three c p q r)
    | inr q ↦ rw (four c q) (λ _ _. of_four c q r)
  ]
]

-- ---- lanes
abbrev pub lanes : List ℕ → List ℕ → List ℕ → List ℕ
lanes a b d = zip2 bit_and (zip2 bit_and (by_nibbles 32 FIRST_HIGH FIRST_LOW a) (by_nibbles 32 SECOND_HIGH SECOND_LOW b)) (by_nibbles 32 THIRD_HIGH THIRD_LOW d)

module _ (a b d : List ℕ) (A : IsLanes 32 a) (B : IsLanes 32 b) (D : IsLanes 32 d) where
  lanes_are : HasLanes 32 (lanes a b d) (λ k. groups (get_or a k 0) (get_or b k 0) (get_or d k 0))
  lanes_are =
      let first = both_looked_up 32 (inr refl) a A FIRST_HIGH FIRST_LOW refl refl refl refl in
      let second = both_looked_up 32 (inr refl) b B SECOND_HIGH SECOND_LOW refl refl refl refl in
      let third = both_looked_up 32 (inr refl) d D THIRD_HIGH THIRD_LOW refl refl refl refl in
      HasLanes-zip2 bit_and (HasLanes-zip2 bit_and first second) third

-- ---- 32 indices
module _ (bs : List ℕ) (fits : (k : ℕ) → Fits w8 (get_or bs k 0)) where
  pub loaded : (at : ℕ) → at + 32 ≤ length bs → IsLanes 32 (chunk at 32 bs)
  loaded at room = lanes_fit 32 (HasLanes_load at 32 bs room) (λ k. fits (at + k))

  module _ (at : ℕ) (room : at + 34 ≤ length bs) where
    looked_up : HasLanes 32 (lanes (chunk at 32 bs) (chunk (at + 1) 32 bs) (chunk (at + 2) 32 bs))
        (λ k. groups (get_or (chunk at 32 bs) k 0) (get_or (chunk (at + 1) 32 bs) k 0) (get_or (chunk (at + 2) 32 bs) k 0))
    looked_up = lanes_are _ _ _ (loaded at (omega arith)) (loaded (at + 1) (omega arith)) (loaded (at + 2) (omega arith))

    pub lanes_long : length (lanes (chunk at 32 bs) (chunk (at + 1) 32 bs) (chunk (at + 2) 32 bs)) ≡ 32
    lanes_long = looked_up.long

    pub none_at : (i : ℕ) → i < 32 → get_or (lanes (chunk at 32 bs) (chunk (at + 1) 32 bs) (chunk (at + 2) 32 bs)) i 0 ≡ 0 → RtlAt bs (at + i) → ⊥
    none_at i l e s =
        let one : at + 1 + i ≡ at + i + 1 = omega arith in
        let two : at + 2 + i ≡ at + i + 2 = omega arith in
        let first = (HasLanes_load at 32 bs (omega arith)).each i l in
        let second = (HasLanes_load (at + 1) 32 bs (omega arith)).each i l ∙ ap (λ k. get_or bs k 0) one in
        let third = (HasLanes_load (at + 2) 32 bs (omega arith)).each i l ∙ ap (λ k. get_or bs k 0) two in
        by_first_three (λ p q r. q < 256 → r < 256 → groups p q r ≡ 0 → ⊥) first_leave bs (at + i) s (fits (at + i + 1)).fits (fits (at + i + 2)).fits
        (sym (λ j. groups (first j) (second j) (third j)) ∙ sym (looked_up.each i l) ∙ e)

-- ---- 64 indices
pub none_in_64 : (bs : List ℕ) (at : ℕ) → ((i : ℕ) → i < 32 → RtlAt bs (at + i) → ⊥) → ((i : ℕ) → i < 32 → RtlAt bs (at + 32 + i) → ⊥) → NoRtlIn bs at (at + 64)
none_in_64 bs at first second = record {
  each = λ k l h s. elim (cases_lt k (at + 32)) [
    | inl p ↦ let e : k ≡ at + (k - at) = omega arith in first (k - at) (omega arith) (subst (RtlAt bs) e s)
    | inr p ↦ let e : k ≡ at + 32 + (k - (at + 32)) = omega arith in second (k - (at + 32)) (omega arith) (subst (RtlAt bs) e s)
  ];
}
