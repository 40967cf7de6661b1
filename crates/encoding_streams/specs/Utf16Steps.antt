-- What private functions promise of their steps; no public contract cites these.
use Rattle.std.specs.Prelude.{◌≡◌, ℕ, ◌-◌, ◌*◌, ◌<◌, ◌≤◌, Bool, true, List, ◌∷◌, ◌++◌, length, take, drop, Option, None, Some, [], ◌⊎◌}
use Rattle.std.specs.Char.{IsScalar}
use Rattle.std.specs.Char.Escape.{encode_utf16}
use Rattle.std.specs.Str.{all_scalars}
use Rattle.std.specs.List.{flat_map}
use Rattle.encoding_text.specs.Prefixes.{WritesPrefix}
use Rattle.encoding_text.specs.Surrogates.{IsValidUtf16}
use Rattle.encoding_text.specs.Utf16.{AreCodeUnits, IsHighSurrogate, IsLowSurrogate}
use Rattle.encoding_text.specs.Utf16Bytes.{bytes_of_scalars, utf16_bytes}
use Rattle.encoding_text.specs.declared.utf_16.ByteOrder.{ByteOrder}
use Rattle.encoding_text.specs.declared.decoder.DecoderResult.{DecoderResult}
use Rattle.encoding_streams.specs.Utf16Parts.{IsMalformedUtf16, IsPendingUtf16}
use Rattle.encoding_streams.specs.Utf16Decoding.{DecodeUtf16StepInto}
use Rattle.encoding_streams.specs.declared.utf16_decoder.window.First.{First}
use Rattle.encoding_streams.specs.declared.utf16_decoder.window.First.TheVariants.{Characters, Unpaired, Incomplete}

-- whole characters are read after p and written, and q is pending after them
pub record Advances {A : Type 0} (order : ByteOrder) (encode : ℕ → List A) (p src : List ℕ) (old new : List A) (read written : ℕ) (q : List ℕ) : Type 0 where
  pub scalars : List ℕ
  pub are_scalars : all_scalars scalars ≡ true
  pub within : read ≤ length src
  pub spelled : p ++ take read src ≡ bytes_of_scalars order scalars ++ q
  pub writes : WritesPrefix old new written (flat_map encode scalars)

-- the bytes start with a character that needs more than the space that is left
abbrev pub BeginsTooLong : {A : Type 0} → ByteOrder → (ℕ → List A) → List ℕ → ℕ → Type 0
BeginsTooLong order encode bs left = (c : ℕ) × (rest : List ℕ) × IsScalar c × (bs ≡ utf16_bytes order (encode_utf16 c) ++ rest) × (left < length (encode c))

-- these are code units, without an unpaired surrogate, and have these bytes
pub record AreValidUnitsOf (order : ByteOrder) (bytes units : List ℕ) : Type 0 where
  pub valid : IsValidUtf16 units
  pub fit : AreCodeUnits units
  pub spelled : utf16_bytes order units ≡ bytes

-- the units are those of the characters `done`, which are written, and `more`, the first of which needs more than the
-- space that is left
pub record WritesUnits {A : Type 0} (encode : ℕ → List A) (units : List ℕ) (old new : List A) (taken written : ℕ) : Type 0 where
  pub done : List ℕ
  pub more : List ℕ
  pub are_scalars : all_scalars (done ++ more) ≡ true
  pub units_are : units ≡ flat_map encode_utf16 (done ++ more)
  pub taken_is : taken ≡ length (flat_map encode_utf16 done)
  pub writes : WritesPrefix old new written (flat_map encode done)
  pub stops : (c : ℕ) (rest : List ℕ) → more ≡ c ∷ rest → length old - written < length (encode c)

-- the first of the code units is a low surrogate, or a high one before another unit that is no low one
abbrev pub BeginsUnpaired : List ℕ → Type 0
BeginsUnpaired [] = ⊥
BeginsUnpaired (u ∷ []) = IsLowSurrogate u
BeginsUnpaired (u ∷ v ∷ us) = IsLowSurrogate u ⊎ (IsHighSurrogate u × (v < 0x10000) × (IsLowSurrogate v → ⊥))

-- what these bytes start with: more may follow them only if they are four
abbrev pub IsFirstOf : ByteOrder → List ℕ → First → Type 0
IsFirstOf order w (Characters units count) =
    (0 < count) × (count ≤ length units) × (2 * count ≤ length w) × IsValidUtf16 (take count units) × (utf16_bytes order (take count units) ≡ take (2 * count) w)
IsFirstOf order w Unpaired = (2 ≤ length w) × ((more : List ℕ) (last : Bool) → IsMalformedUtf16 order (take 2 w) (drop 2 w ++ more) last)
IsFirstOf order w Incomplete = IsPendingUtf16 order w

-- a step at bytes that may be no whole character: the call ends, or characters are read and nothing is pending
abbrev pub Resumes : {A : Type 0} → ByteOrder → (ℕ → List A) → ℕ → List ℕ → List ℕ → List A → List A → Bool → Option DecoderResult → ℕ → ℕ → List ℕ → Type 0
Resumes order encode need p src old new last (Some result) read written q = DecodeUtf16StepInto order encode need p src old new last result read written q
Resumes order encode need p src old new last None read written q = (0 < read) × (q ≡ []) × Advances order encode p src old new read written q
