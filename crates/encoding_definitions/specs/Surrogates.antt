-- Unpaired surrogates among UTF-16 code units: which units are valid, how many there are, and what replaces each.
use Rattle.std.specs.Prelude.{◌≡◌, ℕ, suc, List, [], ◌∷◌, ◌++◌, length, map, slice_index}
use Rattle.std.specs.Char.Escape.{encode_utf16}
use Rattle.std.specs.List.{flat_map}
use Rattle.encoding_definitions.specs.Utf16.{Part16, Character16, Unpaired, units_of_part16, ArePartsOf16}

-- the units have no unpaired surrogate: each part is a character
abbrev pub IsValidUtf16 : List ℕ → Type 0
IsValidUtf16 us = (cs : List ℕ) × ArePartsOf16 us (map Character16 cs)

-- how many of the parts are unpaired surrogates
abbrev pub unpaired_count : List Part16 → ℕ
unpaired_count [] = 0
unpaired_count (Character16 c ∷ parts) = unpaired_count parts
unpaired_count (Unpaired u ∷ parts) = suc (unpaired_count parts)

-- the units have `count` unpaired surrogates
abbrev pub HasUnpaired : List ℕ → ℕ → Type 0
HasUnpaired us count = (parts : List Part16) × ArePartsOf16 us parts × (count ≡ unpaired_count parts)

-- the units that a part becomes: U+FFFD for an unpaired surrogate, and the same units for a character
abbrev pub repaired_units : Part16 → List ℕ
repaired_units (Character16 c) = encode_utf16 c
repaired_units (Unpaired u) = 0xFFFD ∷ []

-- new are the units old with U+FFFD for each unpaired surrogate
pub record AreRepairedUnits (old new : List ℕ) : Type 0 where
  pub parts : List Part16
  pub are_parts : ArePartsOf16 old parts
  pub placed : new ≡ flat_map repaired_units parts

-- an unpaired surrogate is at this index of the units
pub record IsUnpairedAt (us : List ℕ) (place : ℕ) : Type 0 where
  pub before : List Part16
  pub unit : ℕ
  pub following : List Part16
  pub are_parts : ArePartsOf16 us (before ++ Unpaired unit ∷ following)
  pub place_is : length (flat_map units_of_part16 before) ≡ place

-- the same index by index: new has U+FFFD at the index of each unpaired surrogate, what old has at all others, and as
-- many units
pub record ReplacesUnpaired (old new : List ℕ) : Type 0 where
  pub same_length : length new ≡ length old
  pub unpaired : (place : ℕ) → IsUnpairedAt old place → slice_index new place ≡ 0xFFFD
  pub others : (place : ℕ) → (IsUnpairedAt old place → ⊥) → slice_index new place ≡ slice_index old place
