-- The one decomposition of the bytes of UTF-16LE or UTF-16BE into characters and malformed sequences: Encoding Standard,
-- shared UTF-16 decoder. And the bytes that a decoder keeps between calls.
use Rattle.std.specs.Prelude.{◌≡◌, ◌≢◌, ℕ, ◌<◌, ◌≤◌, Bool, true, false, List, [], ◌∷◌, ◌++◌, length, ◌⊎◌, slice_index}
use Rattle.std.specs.Char.{IsScalar}
use Rattle.std.specs.Char.Escape.{encode_utf16}
use Rattle.encoding_text.specs.Parts.{Part, Character, IllFormed}
use Rattle.encoding_text.specs.Utf16.{IsHighSurrogate, IsLowSurrogate}
use Rattle.encoding_text.specs.Encoding.{IsPendingSurrogate}
use Rattle.encoding_text.specs.Utf16Bytes.{unit_bytes, utf16_bytes}
use Rattle.encoding_text.specs.declared.utf_16.ByteOrder.{ByteOrder}

-- each is a byte: a number of eight bits
abbrev pub AreBytes : List ℕ → Type 0
AreBytes bs = (k : ℕ) → slice_index bs k < 256

-- the bytes that a part takes
abbrev pub bytes_of_utf16 : ByteOrder → Part → List ℕ
bytes_of_utf16 order (Character c) = utf16_bytes order (encode_utf16 c)
bytes_of_utf16 order (IllFormed bytes) = bytes

-- the start of a character that isn't whole: a high surrogate or none, and then the first byte of a code unit or none
pub record IsPendingUtf16 (order : ByteOrder) (p : List ℕ) : Type 0 where
  pub surrogate : List ℕ
  pub is_high : IsPendingSurrogate surrogate
  pub odd : List ℕ
  pub one : length odd ≤ 1
  pub whole : p ≡ utf16_bytes order surrogate ++ odd

-- a low surrogate
abbrev pub IsUnpairedLow : ByteOrder → List ℕ → Type 0
IsUnpairedLow order x = (u : ℕ) × IsLowSurrogate u × (x ≡ unit_bytes order u)

-- a high surrogate, followed by a code unit that is no low surrogate
pub record IsUnpairedHigh (order : ByteOrder) (x rest : List ℕ) : Type 0 where
  pub unit : ℕ
  pub is_high : IsHighSurrogate unit
  pub bytes : x ≡ unit_bytes order unit
  pub next : ℕ
  pub is_unit : next < 0x10000
  pub not_low : IsLowSurrogate next → ⊥
  pub more : List ℕ
  pub following : rest ≡ unit_bytes order next ++ more

-- x is a malformed sequence, with these bytes after it. If no more bytes come, all that is left of a character that
-- isn't whole is one.
abbrev pub IsMalformedUtf16 : ByteOrder → List ℕ → List ℕ → Bool → Type 0
IsMalformedUtf16 order x rest last = IsUnpairedLow order x ⊎ IsUnpairedHigh order x rest
    ⊎ ((x ≢ []) × IsPendingUtf16 order x × (rest ≡ []) × (last ≡ true))

-- The part is the first part of the bytes, and rest follows it. Unless these bytes are the last, it stays the first part
-- for any bytes that follow.
abbrev pub IsFirstPartUtf16 : ByteOrder → Bool → List ℕ → Part → List ℕ → Type 0
IsFirstPartUtf16 order last bs (Character c) rest = IsScalar c × (bs ≡ utf16_bytes order (encode_utf16 c) ++ rest)
IsFirstPartUtf16 order last bs (IllFormed x) rest = (bs ≡ x ++ rest) × IsMalformedUtf16 order x rest last

-- the parts are the first parts of the bytes, one after another, and rest follows them
abbrev pub StartsWithUtf16 : ByteOrder → Bool → List ℕ → List Part → List ℕ → Type 0
StartsWithUtf16 order last bs [] rest = bs ≡ rest
StartsWithUtf16 order last bs (part ∷ parts) rest = (after : List ℕ) × IsFirstPartUtf16 order last bs part after × StartsWithUtf16 order last after parts rest

-- the parts are all of the bytes
abbrev pub ArePartsOfUtf16 : ByteOrder → List ℕ → List Part → Type 0
ArePartsOfUtf16 order bs parts = StartsWithUtf16 order true bs parts []

-- The final parts, which no further byte can change. The rest is the start of a character, or nothing.
pub record AreFinalUtf16 (order : ByteOrder) (bs : List ℕ) (parts : List Part) (rest : List ℕ) : Type 0 where
  pub starts : StartsWithUtf16 order false bs parts rest
  pub still_open : IsPendingUtf16 order rest
