-- The malformed sequences of bytes: Encoding Standard, UTF-8 decoder.
use Rattle.std.specs.Prelude.{◌≡◌, ℕ, ◌+◌, ◌≤◌, List, [], ◌∷◌, ◌++◌, length, map, take, drop, encode_utf8}
use Rattle.std.specs.Str.{IsUtf8, chars}
use Rattle.encoding_definitions.specs.Parts.{Part, Character, IllFormed, StartsWith}

-- a malformed sequence of `size` bytes is at index `place`, and all parts before it are characters
pub record IsNextMalformed (bs : List ℕ) (place size : ℕ) : Type 0 where
  pub within : place + size ≤ length bs
  pub well_formed : IsUtf8 (take place bs)
  pub first : StartsWith bs (map Character (chars (take place bs)) ++ IllFormed (take size (drop place bs)) ∷ []) (drop (place + size) bs)

-- Indices and lengths of malformed sequences found one after another, in bytes that start at index `at`. Each is the
-- first one of the bytes after the previous one, and there is none after the last.
abbrev pub AreFoundInTurn : ℕ → List ℕ → List (ℕ × ℕ) → Type 0
AreFoundInTurn at bs [] = IsUtf8 bs
AreFoundInTurn at bs ((place, size) ∷ found) = (before : ℕ) × (place ≡ at + before) × IsNextMalformed bs before size
    × AreFoundInTurn (place + size) (drop (before + size) bs) found

-- the index and the length of each malformed sequence among parts whose bytes start at index `at`
abbrev pub malformed_indices : ℕ → List Part → List (ℕ × ℕ)
malformed_indices at [] = []
malformed_indices at (Character c ∷ parts) = malformed_indices (at + length (encode_utf8 c)) parts
malformed_indices at (IllFormed bytes ∷ parts) = (at, length bytes) ∷ malformed_indices (at + length bytes) parts
