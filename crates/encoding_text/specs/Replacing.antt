-- Whole bytes converted with U+FFFD for each malformed sequence, into a destination of any length: Encoding Standard,
-- UTF-8 decode without BOM.
use Rattle.std.specs.Prelude.{◌≡◌, ℕ, ◌≤◌, List, length, take}
use Rattle.std.specs.List.{flat_map}
use Rattle.encoding_definitions.specs.Parts.{Part, bytes_of, ArePartsOf, lossy_scalar, malformed_count}
use Rattle.encoding_definitions.specs.Prefixes.{IsLongestFittingPrefix, WritesPrefix}

-- Of the parts of src, the longest prefix whose output fits is read and written. U+FFFD is written for each of its
-- `replaced` malformed sequences.
pub record ConvertsParts {A : Type 0} (encode : ℕ → List A) (src : List ℕ) (old new : List A) (read written replaced : ℕ) : Type 0 where
  pub parts : List Part
  pub are_parts : ArePartsOf src parts
  pub out : List A
  pub longest : IsLongestFittingPrefix bytes_of (λ part. encode (lossy_scalar part)) parts (length old) read out
  pub writes : WritesPrefix old new written out
  pub counts : replaced ≡ malformed_count (take longest.count parts)

-- all of src is read, and the output of its parts is written
pub record ConvertsAllParts {A : Type 0} (encode : ℕ → List A) (src : List ℕ) (old new : List A) (read written replaced : ℕ) : Type 0 where
  pub all : read ≡ length src
  pub parts : List Part
  pub are_parts : ArePartsOf src parts
  pub writes : WritesPrefix old new written (flat_map (λ part. encode (lossy_scalar part)) parts)
  pub counts : replaced ≡ malformed_count parts

-- `size` is large enough for all of src: whatever such a conversion does with a destination of this length
abbrev pub SufficesForParts : {A : Type 0} → (ℕ → List A) → List ℕ → ℕ → Type 0
SufficesForParts {A} encode src size = (old new : List A) (read written replaced : ℕ) → size ≤ length old → ConvertsParts encode src old new read written replaced
    → ConvertsAllParts encode src old new read written replaced
