-- Blocks of UTF-16 and pieces of UTF-8, each cut anywhere.
use Rattle.std.specs.Prelude.{◌≡◌, ℕ, Bool, true, false, List, ◌++◌}
use Rattle.std.specs.List.{flat_map}
use Rattle.encoding_text.specs.Parts.{Part, StartsWith, ArePartsOf, lossy_utf16}
use Rattle.encoding_text.specs.Utf16.{AreCodeUnits, Part16, utf8_of_part16, ArePartsOf16, StartsWith16}

-- What is written for a block is the UTF-8 of the first parts of the pending surrogate and the block, for any following
-- units, and of all of them if it is the last.
pub record WritesBlock (surrogate block : List ℕ) (last : Bool) (out after : List ℕ) : Type 0 where
  pub parts : List Part16
  pub written : out ≡ flat_map utf8_of_part16 parts
  pub all : last ≡ true → ArePartsOf16 (surrogate ++ block) parts
  pub stable : last ≡ false → (more : List ℕ) → AreCodeUnits more → StartsWith16 (surrogate ++ block ++ more) parts (after ++ more)

-- What is written for a piece is the repaired UTF-16 of the first parts of the pending bytes and the piece, for any
-- following bytes, and of all of them if it is the last.
pub record WritesPiece (pending piece : List ℕ) (last : Bool) (out after : List ℕ) : Type 0 where
  pub parts : List Part
  pub written : out ≡ lossy_utf16 parts
  pub all : last ≡ true → ArePartsOf (pending ++ piece) parts
  pub stable : last ≡ false → (more : List ℕ) → StartsWith (pending ++ piece ++ more) parts (after ++ more)

-- units are the UTF-16 of the bytes with U+FFFD for each malformed sequence
abbrev pub IsRepairedUtf16 : List ℕ → List ℕ → Type 0
IsRepairedUtf16 bs units = (parts : List Part) × ArePartsOf bs parts × (units ≡ lossy_utf16 parts)
