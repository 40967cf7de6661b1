-- The one decomposition of bytes into characters and malformed sequences: Encoding Standard, UTF-8 decoder. And what
-- calls of any form yield of the bytes that they are passed.
use Rattle.std.specs.Prelude.{◌≡◌, ℕ, suc, ◌≤◌, List, [], ◌∷◌, ◌++◌, length, ◌⊎◌, encode_utf8, Bool, false, drop}
use Rattle.std.specs.Char.{IsScalar}
use Rattle.std.specs.Char.Escape.{encode_utf16}
use Rattle.std.specs.List.{flat_map}
use Rattle.encoding_definitions.specs.Sequence.{IsSequence, IsIncomplete, IsPending}

-- A character, by its scalar value, or the bytes of a malformed sequence. That is Unicode's maximal subpart of an
-- ill-formed subsequence (D93b), and one decoder error of the Encoding Standard.
pub data Part : Type 0 where
  Character : ℕ → Part
  IllFormed : List ℕ → Part

-- the bytes that a part takes
abbrev pub bytes_of : Part → List ℕ
bytes_of (Character c) = encode_utf8 c
bytes_of (IllFormed bytes) = bytes

-- the scalar values of the characters among the parts
abbrev pub characters_of : List Part → List ℕ
characters_of [] = []
characters_of (Character c ∷ parts) = c ∷ characters_of parts
characters_of (IllFormed bytes ∷ parts) = characters_of parts

-- the bytes start with no character
abbrev pub BeginsWithNoCharacter : List ℕ → Type 0
BeginsWithNoCharacter bs = (prefix rest : List ℕ) → bs ≡ prefix ++ rest → IsSequence prefix → ⊥

-- the bytes are `prefix` followed by `rest`, and `prefix` is the longest incomplete sequence that they start with
pub record IsLongestIncomplete (bs prefix rest : List ℕ) : Type 0 where
  pub whole : bs ≡ prefix ++ rest
  pub incomplete : IsIncomplete prefix
  pub longest : (longer more : List ℕ) → bs ≡ longer ++ more → IsIncomplete longer → length longer ≤ length prefix

-- the bytes start with no incomplete sequence: `prefix` is the first of them, and `rest` the others
pub record IsSingleByte (bs prefix rest : List ℕ) : Type 0 where
  pub whole : bs ≡ prefix ++ rest
  pub one : length prefix ≡ 1
  pub none : (longer more : List ℕ) → bs ≡ longer ++ more → IsIncomplete longer → ⊥

-- the part is the first part of the bytes, and rest follows it
abbrev pub IsFirstPart : List ℕ → Part → List ℕ → Type 0
IsFirstPart bs (Character c) rest = IsScalar c × (bs ≡ encode_utf8 c ++ rest)
IsFirstPart bs (IllFormed prefix) rest = BeginsWithNoCharacter bs × (IsLongestIncomplete bs prefix rest ⊎ IsSingleByte bs prefix rest)

-- the parts are the first parts of the bytes, one after another, and rest follows them
abbrev pub StartsWith : List ℕ → List Part → List ℕ → Type 0
StartsWith bs [] rest = bs ≡ rest
StartsWith bs (part ∷ parts) rest = (after : List ℕ) × IsFirstPart bs part after × StartsWith after parts rest

-- the parts are all of the bytes
abbrev pub ArePartsOf : List ℕ → List Part → Type 0
ArePartsOf bs parts = StartsWith bs parts []

-- the scalar value that is written for a part
abbrev pub lossy_scalar : Part → ℕ
lossy_scalar (Character c) = c
lossy_scalar (IllFormed bytes) = 0xFFFD

-- the text of parts, with U+FFFD for each malformed sequence
abbrev pub lossy_utf8 : List Part → List ℕ
lossy_utf8 parts = flat_map (λ part. encode_utf8 (lossy_scalar part)) parts

-- the same text in UTF-16
abbrev pub lossy_utf16 : List Part → List ℕ
lossy_utf16 parts = flat_map (λ part. encode_utf16 (lossy_scalar part)) parts

-- how many parts are malformed sequences
abbrev pub malformed_count : List Part → ℕ
malformed_count [] = 0
malformed_count (Character c ∷ parts) = malformed_count parts
malformed_count (IllFormed bytes ∷ parts) = suc (malformed_count parts)

-- The final parts, which no further byte can change: all except a last one that is still an incomplete sequence. That
-- is then the rest.
pub record AreFinal (bs : List ℕ) (parts : List Part) (rest : List ℕ) : Type 0 where
  pub starts : StartsWith bs parts rest
  pub still_open : IsPending rest
  pub closed : rest ≡ [] → (prefix : List Part) (x : List ℕ) → parts ≡ prefix ++ IllFormed x ∷ [] → IsIncomplete x → ⊥

-- The parts are the first parts of the pending bytes followed by the source, and the call reads the first `read` bytes
-- of the source. The bytes after these parts are pending or unread. If the source isn't the last, they stay the first
-- parts for any bytes that follow it.
pub record Yields (p src : List ℕ) (last : Bool) (parts : List Part) (read : ℕ) (q : List ℕ) : Type 0 where
  pub within : read ≤ length src
  pub first : StartsWith (p ++ src) parts (q ++ drop read src)
  pub pending : IsPending q
  pub stable : last ≡ false → (more : List ℕ) → StartsWith (p ++ src ++ more) parts (q ++ drop read src ++ more)
