-- The number of unpaired surrogates: of joined parts, of units with one more part before them, and at most one for each
-- unit.
use Rattle.std.proofs.Common.{◌≡◌, ℕ, ◌+◌, ◌≤◌, List, [], ◌∷◌, ◌++◌, length, ap, arith}
use Rattle.std.specs.List.{flat_map}
use Rattle.std.proofs.lemmas.List.{length-append}
use Rattle.encoding_definitions.specs.FirstScalar.{IsFirstPart16}
use Rattle.encoding_definitions.specs.Surrogates.{unpaired_count, HasUnpaired}
use Rattle.encoding_definitions.specs.Utf16.{AreCodeUnits, Part16, Character16, Unpaired, units_of_part16}
use Rattle.encoding_definitions.proofs.Utf16Lemmas.{ArePartsOf16-cons, AreCodeUnits-tail}

pub unpaired_count-cons : (p : Part16) (ps : List Part16) → unpaired_count (p ∷ ps) ≡ unpaired_count (p ∷ []) + unpaired_count ps
unpaired_count-cons (Character16 c) ps = omega arith
unpaired_count-cons (Unpaired u) ps = omega arith

unpaired_within : (ps : List Part16) → unpaired_count ps ≤ length (flat_map units_of_part16 ps)
unpaired_within [] = omega arith
unpaired_within (Character16 c ∷ ps) = omega (arith, unpaired_within ps, length-append (units_of_part16 (Character16 c)) (flat_map units_of_part16 ps))
unpaired_within (Unpaired u ∷ ps) = omega (arith, unpaired_within ps)

-- no more than there are units
pub HasUnpaired-within : (us : List ℕ) (n : ℕ) → HasUnpaired us n → n ≤ length us
HasUnpaired-within us n (parts, are, e) = omega (arith, e, unpaired_within parts, ap length are.1)

-- one more part before the units
pub HasUnpaired-cons : (us : List ℕ) (p : Part16) (rest : List ℕ) (n : ℕ) → IsFirstPart16 us p rest → HasUnpaired rest n
    → HasUnpaired us (unpaired_count (p ∷ []) + n)
HasUnpaired-cons us p rest n f (parts, are, e) =
    (p ∷ parts, ArePartsOf16-cons us p rest parts f are, omega (arith, e, unpaired_count-cons p parts))

-- the units after others are code units
pub AreCodeUnits-after : (xs ys : List ℕ) → AreCodeUnits (xs ++ ys) → AreCodeUnits ys
AreCodeUnits-after [] ys a = a
AreCodeUnits-after (x ∷ xs) ys a = AreCodeUnits-after xs ys (AreCodeUnits-tail x (xs ++ ys) a)
