-- The one decomposition of UTF-16 code units into characters and unpaired surrogates: Unicode Standard, section 3.9,
-- UTF-16.
use Rattle.std.specs.Prelude.{◌≡◌, ℕ, ◌<◌, ◌≤◌, List, [], ◌∷◌, ◌++◌, length, take, ◌⊎◌, slice_index, encode_utf8}
use Rattle.std.specs.Char.{IsScalar}
use Rattle.std.specs.Char.Escape.{encode_utf16}
use Rattle.std.specs.List.{flat_map}
use Rattle.encoding_definitions.specs.Prefixes.{IsLongestFittingPrefix}

-- each is a code unit: a number of sixteen bits
abbrev pub AreCodeUnits : List ℕ → Type 0
AreCodeUnits us = (k : ℕ) → slice_index us k < 0x10000

abbrev pub IsHighSurrogate : ℕ → Type 0
IsHighSurrogate u = (0xD800 ≤ u) × (u ≤ 0xDBFF)

abbrev pub IsLowSurrogate : ℕ → Type 0
IsLowSurrogate u = (0xDC00 ≤ u) × (u ≤ 0xDFFF)

-- a character, by its scalar value, or an unpaired surrogate
pub data Part16 : Type 0 where
  Character16 : ℕ → Part16
  Unpaired : ℕ → Part16

-- the units that a part takes
abbrev pub units_of_part16 : Part16 → List ℕ
units_of_part16 (Character16 c) = encode_utf16 c
units_of_part16 (Unpaired u) = u ∷ []

-- the scalar value that is written for a part
abbrev pub scalar_of_part16 : Part16 → ℕ
scalar_of_part16 (Character16 c) = c
scalar_of_part16 (Unpaired u) = 0xFFFD

-- the bytes that are written for a part
abbrev pub utf8_of_part16 : Part16 → List ℕ
utf8_of_part16 part = encode_utf8 (scalar_of_part16 part)

-- the number is a scalar value, or a surrogate
abbrev pub IsPart16 : Part16 → Type 0
IsPart16 (Character16 c) = IsScalar c
IsPart16 (Unpaired u) = IsHighSurrogate u ⊎ IsLowSurrogate u

-- the two are not the halves of one pair
abbrev pub MayPrecede : Part16 → Part16 → Type 0
MayPrecede (Unpaired u) (Unpaired v) = IsHighSurrogate u → IsLowSurrogate v → ⊥
MayPrecede (Character16 c) q = Unit {0}
MayPrecede (Unpaired u) (Character16 c) = Unit {0}

-- each is a part, and no unpaired high surrogate is directly followed by an unpaired low one
abbrev pub ArePaired : List Part16 → Type 0
ArePaired [] = Unit {0}
ArePaired (p ∷ []) = IsPart16 p
ArePaired (p ∷ q ∷ ps) = IsPart16 p × MayPrecede p q × ArePaired (q ∷ ps)

-- the parts are all of the units
abbrev pub ArePartsOf16 : List ℕ → List Part16 → Type 0
ArePartsOf16 us ps = ArePaired ps × (flat_map units_of_part16 ps ≡ us)

-- the first parts of the code units, and the rest of the units, whose parts are the others
pub record StartsWith16 (us : List ℕ) (first : List Part16) (rest : List ℕ) : Type 0 where
  pub others : List Part16
  pub whole : ArePartsOf16 us (first ++ others)
  pub following : ArePartsOf16 rest others

-- out is the UTF-8 of the first parts of the units, which take the first `read` units
pub record IsUtf8OfPrefix (us : List ℕ) (read : ℕ) (out : List ℕ) : Type 0 where
  pub parts : List Part16
  pub are_parts : ArePartsOf16 us parts
  pub count : ℕ
  pub within : count ≤ length parts
  pub taken : read ≡ length (flat_map units_of_part16 (take count parts))
  pub written : out ≡ flat_map utf8_of_part16 (take count parts)

-- out is the UTF-8 of the longest prefix of the parts whose UTF-8 fits into `room` bytes, and they take the first
-- `read` units
pub record IsUtf8OfLongestPrefix (us : List ℕ) (room read : ℕ) (out : List ℕ) : Type 0 where
  pub parts : List Part16
  pub are_parts : ArePartsOf16 us parts
  pub longest : IsLongestFittingPrefix units_of_part16 utf8_of_part16 parts room read out

-- out is the UTF-8 of all parts of the units
pub record IsUtf8OfUnits (us : List ℕ) (out : List ℕ) : Type 0 where
  pub parts : List Part16
  pub are_parts : ArePartsOf16 us parts
  pub written : out ≡ flat_map utf8_of_part16 parts
