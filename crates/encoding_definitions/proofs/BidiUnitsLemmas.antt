-- Right-to-left parts of UTF-16 code units, unit by unit.
use Rattle.std.proofs.Common.{◌≡◌, ℕ, ◌+◌, ◌-◌, ◌*◌, ◌/◌, ◌%◌, ◌<◌, ◌≤◌, ◌⊎◌, inl, inr, List, []}
use Rattle.std.proofs.Common.{◌∷◌, length, take, drop, slice_index, sym, ap, ◌∙◌, arith, subst}
use Rattle.std.specs.Prelude.{Any, map}
use Rattle.std.specs.Char.{IsScalar}
use Rattle.std.specs.Int.{IsInRange}
use Rattle.std.specs.List.{flat_map}
use Rattle.std.proofs.lemmas.Bool.{cases_lt}
use Rattle.std.proofs.lemmas.List.{length-drop, get_or-drop, get_or-take}
use Rattle.std.proofs.str.Utf16.{one_unit, two_units}
use lib.Utf8.{scalar_cases}
use Rattle.encoding_definitions.specs.Bidi.{IsRightToLeft, IsRightToLeftUnit, IsRightToLeftPart, IsBidiUnits}
use Rattle.encoding_definitions.specs.Latin1.{IsLatin1}
use Rattle.encoding_definitions.specs.Utf16.{AreCodeUnits, Part16, Character16, Unpaired, units_of_part16, IsPart16, ArePaired}
use Rattle.encoding_definitions.proofs.AnyLemmas.{Any-here, Any-there, Any-none, Any-cons, Any-left, Any-right, Any-append, Any-at, Any-place}
use Rattle.encoding_definitions.proofs.BidiTextLemmas.{right_to_left_from}
use Rattle.encoding_definitions.proofs.Utf16Lemmas.{parts_of, parts_exist, tail_paired, head_part}

-- ---- a unit by its number
abbrev pub UnitForm : ℕ → Type 0
UnitForm u = IsRightToLeft u ⊎ (IsInRange 0xD802 0xD803 u ⊎ IsInRange 0xD83A 0xD83B u)

upper_form : (c u : ℕ) → 0x10000 ≤ c → 0xD800 + (c - 0x10000) / 0x400 ≡ u → IsRightToLeft c → IsInRange 0xD802 0xD803 u ⊎ IsInRange 0xD83A 0xD83B u
upper_form c u l e r = elim (cases_lt c 0x1E800) [
  | inl p ↦ inl (omega arith, omega arith)
  | inr p ↦ inr (omega arith, omega arith)
]

pub unit_form : (u : ℕ) → IsRightToLeftUnit u → UnitForm u
unit_form u (c, low, r, inl e) = elim (cases_lt c 0x10000) [
  | inl l ↦ let same : c ≡ u = let one = sym (one_unit c l) ∙ e in cc in inl (subst IsRightToLeft same r)
  | inr l ↦ absurd (omega (arith, ap length (sym (two_units c l) ∙ e)))
]
unit_form u (c, low, r, inr e) = elim (cases_lt c 0x10000) [
  | inl l ↦ absurd (omega (arith, ap length (sym (one_unit c l) ∙ e)))
  | inr l ↦ let first : 0xD800 + (c - 0x10000) / 0x400 ≡ u = let two = sym (two_units c l) ∙ e in cc in inr (upper_form c u l first r)
]

pub unit_scalar : (u : ℕ) → u < 0x10000 → IsRightToLeft u → IsRightToLeftUnit u
unit_scalar u l r = (u, 0, r, inl (one_unit u l))

unit_first : (u : ℕ) → IsInRange 0xD802 0xD803 u → IsRightToLeftUnit u
unit_first u h =
    let c = 0x10800 + (u - 0xD802) * 0x400 in
    let first : 0xD800 + (c - 0x10000) / 0x400 ≡ u = omega arith in
    (c, 0xDC00 + (c - 0x10000) % 0x400, grind arith, inr (two_units c (omega arith) ∙ ap (λ v. v ∷ (0xDC00 + (c - 0x10000) % 0x400) ∷ []) first))

unit_second : (u : ℕ) → IsInRange 0xD83A 0xD83B u → IsRightToLeftUnit u
unit_second u h =
    let c = 0x1E800 + (u - 0xD83A) * 0x400 in
    let first : 0xD800 + (c - 0x10000) / 0x400 ≡ u = omega arith in
    (c, 0xDC00 + (c - 0x10000) % 0x400, grind arith, inr (two_units c (omega arith) ∙ ap (λ v. v ∷ (0xDC00 + (c - 0x10000) % 0x400) ∷ []) first))

pub unit_high : (u : ℕ) → IsInRange 0xD802 0xD803 u ⊎ IsInRange 0xD83A 0xD83B u → IsRightToLeftUnit u
unit_high u (inl h) = unit_first u h
unit_high u (inr h) = unit_second u h

-- a unit below U+0590 is not right-to-left
pub unit_low_none : (u : ℕ) → u < 0x590 → IsRightToLeftUnit u → ⊥
unit_low_none u l r = elim (unit_form u r) [
  | inl h ↦ omega (arith, right_to_left_from u h)
  | inr h ↦ elim h [ inl g ↦ omega arith | inr g ↦ omega arith ]
]

-- ---- a part by its units
part_units : (p : Part16) → IsRightToLeftPart p → Any IsRightToLeftUnit (units_of_part16 p)
part_units (Character16 c) r = elim (cases_lt c 0x10000) [
  | inl l ↦ subst (λ xs. Any IsRightToLeftUnit xs) (sym (one_unit c l)) (Any-here IsRightToLeftUnit c [] (unit_scalar c l r))
  | inr l ↦
      subst (λ xs. Any IsRightToLeftUnit xs) (sym (two_units c l))
      (Any-here IsRightToLeftUnit (0xD800 + (c - 0x10000) / 0x400) ((0xDC00 + (c - 0x10000) % 0x400) ∷ [])
      (c, 0xDC00 + (c - 0x10000) % 0x400, r, inr (two_units c l)))
]
part_units (Unpaired u) r = Any-here IsRightToLeftUnit u [] r.1

no_surrogate : (u : ℕ) → 0xD800 ≤ u → u ≤ 0xDFFF → IsRightToLeft u → ⊥
no_surrogate u l h r = omega arith

one_part : (c : ℕ) → IsScalar c → UnitForm c → IsRightToLeft c
one_part c s (inl r) = r
one_part c s (inr (inl h)) = absurd (elim (scalar_cases c s) [ inl a ↦ omega arith | inr a ↦ omega arith ])
one_part c s (inr (inr h)) = absurd (elim (scalar_cases c s) [ inl a ↦ omega arith | inr a ↦ omega arith ])

high_part : (c : ℕ) → 0x10000 ≤ c → c < 0x110000 → UnitForm (0xD800 + (c - 0x10000) / 0x400) → IsRightToLeft c
high_part c l h (inl r) = absurd (no_surrogate (0xD800 + (c - 0x10000) / 0x400) (omega arith) (omega arith) r)
high_part c l h (inr (inl r)) = let inside : IsInRange 0x10800 0x10FFF c = (omega arith, omega arith) in grind arith
high_part c l h (inr (inr r)) = let inside : IsInRange 0x1E800 0x1EFFF c = (omega arith, omega arith) in grind arith

low_none : (u : ℕ) → 0xDC00 ≤ u → u ≤ 0xDFFF → UnitForm u → ⊥
low_none u l h (inl r) = no_surrogate u (omega arith) h r
low_none u l h (inr (inl r)) = omega arith
low_none u l h (inr (inr r)) = omega arith

units_part : (p : Part16) → IsPart16 p → Any IsRightToLeftUnit (units_of_part16 p) → IsRightToLeftPart p
units_part (Character16 c) s a = elim (cases_lt c 0x10000) [
  | inl l ↦ elim (Any-cons IsRightToLeftUnit c [] (subst (λ xs. Any IsRightToLeftUnit xs) (one_unit c l) a)) [
    | inl r ↦ one_part c s (unit_form c r)
    | inr n ↦ absurd (Any-none IsRightToLeftUnit n)
  ]
  | inr l ↦ let top : c < 0x110000 = elim (scalar_cases c s) [ inl h ↦ omega arith | inr h ↦ h.1 ] in
      let high = 0xD800 + (c - 0x10000) / 0x400 in
      let low = 0xDC00 + (c - 0x10000) % 0x400 in
      elim (Any-cons IsRightToLeftUnit high (low ∷ []) (subst (λ xs. Any IsRightToLeftUnit xs) (two_units c l) a)) [
        | inl r ↦ high_part c l top (unit_form high r)
        | inr b ↦ elim (Any-cons IsRightToLeftUnit low [] b) [
          | inl r ↦ absurd (low_none low (omega arith) (omega arith) (unit_form low r))
          | inr n ↦ absurd (Any-none IsRightToLeftUnit n)
        ]
      ]
]
units_part (Unpaired u) s a = elim (Any-cons IsRightToLeftUnit u [] a) [
  | inl r ↦ elim s [ inl h ↦ (h, r) | inr h ↦ absurd (low_none u h.0 h.1 (unit_form u r)) ]
  | inr n ↦ absurd (Any-none IsRightToLeftUnit n)
]

all_units : (ps : List Part16) → Any IsRightToLeftPart ps → Any IsRightToLeftUnit (flat_map units_of_part16 ps)
all_units [] a = absurd (Any-none IsRightToLeftPart a)
all_units (p ∷ ps) a = elim (Any-cons IsRightToLeftPart p ps a) [
  | inl r ↦ Any-left IsRightToLeftUnit (units_of_part16 p) (flat_map units_of_part16 ps) (part_units p r)
  | inr b ↦ Any-right IsRightToLeftUnit (units_of_part16 p) (flat_map units_of_part16 ps) (all_units ps b)
]

all_parts : (ps : List Part16) → ArePaired ps → Any IsRightToLeftUnit (flat_map units_of_part16 ps) → Any IsRightToLeftPart ps
all_parts [] s a = absurd (Any-none IsRightToLeftUnit a)
all_parts (p ∷ ps) s a = elim (Any-append IsRightToLeftUnit (units_of_part16 p) (flat_map units_of_part16 ps) a) [
  | inl b ↦ Any-here IsRightToLeftPart p ps (units_part p (head_part p ps s) b)
  | inr b ↦ Any-there IsRightToLeftPart p ps (all_parts ps (tail_paired p ps s) b)
]

-- ---- units with a right-to-left part are those with a right-to-left unit
pub bidi_at : (us : List ℕ) (k : ℕ) → AreCodeUnits us → k < length us → IsRightToLeftUnit (slice_index us k) → IsBidiUnits us
bidi_at us k a l r =
    let parts = parts_exist us a in
    (parts_of us, parts, all_parts (parts_of us) parts.0 (subst (λ xs. Any IsRightToLeftUnit xs) (sym parts.1) (Any-at IsRightToLeftUnit us k l r)))

pub bidi_place : (us : List ℕ) → IsBidiUnits us → (k : ℕ) × (k < length us) × IsRightToLeftUnit (slice_index us k)
bidi_place us (ps, a, r) = Any-place IsRightToLeftUnit us (subst (λ xs. Any IsRightToLeftUnit xs) a.1 (all_units ps r))

-- ---- a Latin1 prefix and the rest
pub bidi_rest : (us : List ℕ) (n : ℕ) → AreCodeUnits us → IsLatin1 (take n us) → IsBidiUnits us → IsBidiUnits (drop n us)
bidi_rest us n a h b =
    let found = bidi_place us b in
    let k = found.0 in
    elim (cases_lt k n) [
      | inl l ↦ absurd (unit_low_none (slice_index us k) (omega (arith, get_or-take n us k 0 l, h k)) found.2)
      | inr l ↦ let same : slice_index (drop n us) (k - n) ≡ slice_index us k = get_or-drop n us (k - n) 0
          ∙ ap (λ j. slice_index us j) {x = n + (k - n)} {y = k} (omega arith) in
          bidi_at (drop n us) (k - n) (λ j. subst (λ u. u < 0x10000) (sym (get_or-drop n us j 0)) (a (n + j))) (omega (arith, found.1, length-drop n us))
          (subst IsRightToLeftUnit (sym same) found.2)
    ]

pub bidi_whole : (us : List ℕ) (n : ℕ) → AreCodeUnits us → IsBidiUnits (drop n us) → IsBidiUnits us
bidi_whole us n a b =
    let found = bidi_place (drop n us) b in
    bidi_at us (n + found.0) a (omega (arith, found.1, length-drop n us)) (subst IsRightToLeftUnit (get_or-drop n us found.0 0) found.2)

-- ---- the UTF-16 of scalar values
pub characters_bidi : (cs : List ℕ) → Any IsRightToLeft cs → Any IsRightToLeftPart (map Character16 cs)
characters_bidi [] a = absurd (Any-none IsRightToLeft a)
characters_bidi (c ∷ cs) a = elim (Any-cons IsRightToLeft c cs a) [
  | inl r ↦ Any-here IsRightToLeftPart (Character16 c) (map Character16 cs) r
  | inr b ↦ Any-there IsRightToLeftPart (Character16 c) (map Character16 cs) (characters_bidi cs b)
]

pub bidi_characters : (cs : List ℕ) → Any IsRightToLeftPart (map Character16 cs) → Any IsRightToLeft cs
bidi_characters [] a = absurd (Any-none IsRightToLeftPart a)
bidi_characters (c ∷ cs) a = elim (Any-cons IsRightToLeftPart (Character16 c) (map Character16 cs) a) [
  | inl r ↦ Any-here IsRightToLeft c cs r
  | inr b ↦ Any-there IsRightToLeft c cs (bidi_characters cs b)
]
