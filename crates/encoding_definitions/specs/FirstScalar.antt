-- Steps of a conversion from UTF-16: the scalar value that is written for the first part of the code units.
use Rattle.std.specs.Prelude.{◌≡◌, ℕ, List, [], ◌∷◌, ◌++◌, length, drop, ◌⊎◌}
use Rattle.std.specs.Char.{IsScalar}
use Rattle.std.specs.Char.Escape.{encode_utf16}
use Rattle.encoding_definitions.specs.Utf16.{Part16, Character16, Unpaired, scalar_of_part16, IsHighSurrogate, IsLowSurrogate}

-- the first unit is a low surrogate
abbrev pub BeginsLow : List ℕ → Type 0
BeginsLow [] = ⊥
BeginsLow (u ∷ us) = IsLowSurrogate u

-- the part is the first of the units, and rest follows it
abbrev pub IsFirstPart16 : List ℕ → Part16 → List ℕ → Type 0
IsFirstPart16 us (Character16 c) rest = IsScalar c × (us ≡ encode_utf16 c ++ rest)
IsFirstPart16 us (Unpaired u) rest = (IsHighSurrogate u ⊎ IsLowSurrogate u) × (us ≡ u ∷ rest) × (IsHighSurrogate u → BeginsLow rest → ⊥)

-- the scalar value is written for the first part of the units, and its UTF-16 has as many units as the part
pub record IsFirstScalar (us : List ℕ) (scalar : ℕ) : Type 0 where
  pub part : Part16
  pub counts : scalar_of_part16 part ≡ scalar
  pub first : IsFirstPart16 us part (drop (length (encode_utf16 scalar)) us)
