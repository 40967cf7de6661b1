-- What one call of the encoder may return. Its pending surrogate is the high surrogate that ended an earlier call.
use Rattle.std.specs.Prelude.{◌≡◌, ℕ, ◌+◌, ◌<◌, Bool, true, false, Option, Some, None, List, [], ◌∷◌, ◌++◌, length, map, encode_utf8}
use Rattle.std.specs.List.{flat_map}
use Rattle.std.specs.Str.{chars}
use Rattle.encoding_definitions.specs.Prefixes.{IsLongestFittingPrefix}
use Rattle.encoding_definitions.specs.Utf16.{Part16, Character16, Unpaired, units_of_part16, utf8_of_part16, ArePartsOf16, IsHighSurrogate}
use Rattle.encoding_text.specs.declared.utf_8.encoder.EncoderResult.{EncoderResult}
use Rattle.encoding_text.specs.declared.utf_8.encoder.EncoderResult.TheVariants.{InputEmpty, OutputFull}

-- none, or one high surrogate
abbrev pub IsPendingSurrogate : List ℕ → Type 0
IsPendingSurrogate [] = Unit {0}
IsPendingSurrogate (u ∷ []) = IsHighSurrogate u
IsPendingSurrogate (u ∷ v ∷ us) = ⊥

-- the pending surrogate as a list
abbrev pub pending_units : Option ℕ → List ℕ
pending_units None = []
pending_units (Some u) = u ∷ []

-- the units end with a high surrogate
abbrev pub EndsHigh : List ℕ → Type 0
EndsHigh us = (prefix : List ℕ) × (u : ℕ) × (us ≡ prefix ++ u ∷ []) × IsHighSurrogate u

-- Which parts of the units are to be written, and which unit stays pending: a high surrogate that ends a call not
-- marked last, since the next unit may complete its pair.
pub record AreEncodable (us : List ℕ) (last : Bool) (due : List Part16) (left_open : List ℕ) : Type 0 where
  pub prefix : List ℕ
  pub whole : us ≡ prefix ++ left_open
  pub parts : ArePartsOf16 prefix due
  pub surrogate : IsPendingSurrogate left_open
  pub last_opens_none : last ≡ true → left_open ≡ []
  pub waits : last ≡ false → EndsHigh us → length left_open ≡ 1

-- what a call returns, and what is pending after it, if it took `taken` units of the parts to be written
abbrev pub IsEncodeResult : List ℕ → List ℕ → List Part16 → List ℕ → ℕ → EncoderResult → ℕ → List ℕ → Type 0
IsEncodeResult surrogate src due left_open taken InputEmpty read after =
    (taken ≡ length (flat_map units_of_part16 due)) × (read ≡ length src) × (after ≡ left_open)
IsEncodeResult surrogate src due left_open taken OutputFull read after =
    (taken < length (flat_map units_of_part16 due))
    × (taken ≡ 0 → (read ≡ 0) × (after ≡ surrogate))
    × (0 < taken → (read + length surrogate ≡ taken) × (after ≡ []))

-- One call from UTF-16: of the parts of the pending surrogate and the source that are to be written, the longest prefix
-- that fits into `room` bytes is written.
pub record EncodeStep (surrogate src : List ℕ) (room : ℕ) (last : Bool) (result : EncoderResult) (read : ℕ) (out after : List ℕ) : Type 0 where
  pub surrogate_before : IsPendingSurrogate surrogate
  pub surrogate_after : IsPendingSurrogate after
  pub due : List Part16
  pub left_open : List ℕ
  pub taken : ℕ
  pub are_encodable : AreEncodable (surrogate ++ src) last due left_open
  pub longest : IsLongestFittingPrefix units_of_part16 utf8_of_part16 due room taken out
  pub answer : IsEncodeResult surrogate src due left_open taken result read after

-- the characters to be written in a call from a text: U+FFFD for a pending surrogate, then those of the text
abbrev pub encodable_with_text : List ℕ → List ℕ → List Part16
encodable_with_text surrogate text = map Unpaired surrogate ++ map Character16 (chars text)

-- the bytes of the text that a part takes
abbrev pub text_bytes_of : Part16 → List ℕ
text_bytes_of (Character16 c) = encode_utf8 c
text_bytes_of (Unpaired u) = []

-- what a call from a text returns, and what is pending after it
abbrev pub IsTextEncodeResult : List ℕ → List ℕ → List Part16 → List ℕ → EncoderResult → ℕ → List ℕ → Type 0
IsTextEncodeResult surrogate text due out InputEmpty read after = (out ≡ flat_map utf8_of_part16 due) × (read ≡ length text) × (after ≡ [])
IsTextEncodeResult surrogate text due out OutputFull read after =
    (length out < length (flat_map utf8_of_part16 due)) × (out ≡ [] → (read ≡ 0) × (after ≡ surrogate)) × (0 < length out → after ≡ [])

-- One call from a text: of the characters to be written, the longest prefix that fits into `room` bytes is written, and
-- `read` is the length of what it takes of the text.
pub record TextEncodeStep (surrogate text : List ℕ) (room : ℕ) (result : EncoderResult) (read : ℕ) (out after : List ℕ) : Type 0 where
  pub surrogate_before : IsPendingSurrogate surrogate
  pub surrogate_after : IsPendingSurrogate after
  pub longest : IsLongestFittingPrefix text_bytes_of utf8_of_part16 (encodable_with_text surrogate text) room read out
  pub answer : IsTextEncodeResult surrogate text (encodable_with_text surrogate text) out result read after
