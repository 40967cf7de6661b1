-- What a call of a UTF-16LE or UTF-16BE decoder may return: Encoding Standard, shared UTF-16 decoder.
use Rattle.std.specs.Prelude.{◌≡◌, ◌≢◌, ℕ, ◌+◌, ◌-◌, ◌*◌, ◌/◌, ◌<◌, ◌≤◌, Bool, true, List, [], ◌++◌, length, drop, take}
use Rattle.std.specs.Str.{all_scalars}
use Rattle.std.specs.List.{flat_map}
use Rattle.encoding_text.specs.Parts.{Part, Character, IllFormed}
use Rattle.encoding_text.specs.Prefixes.{WritesPrefix}
use Rattle.encoding_text.specs.Decoding.{IsReport}
use Rattle.encoding_text.specs.declared.utf_16.ByteOrder.{ByteOrder}
use Rattle.encoding_text.specs.declared.decoder.DecoderResult.{DecoderResult}
use Rattle.encoding_text.specs.declared.decoder.DecoderResult.TheVariants.{InputEmpty, OutputFull, Malformed}
use Rattle.encoding_text.specs.Utf16Bytes.{bytes_of_scalars}
use Rattle.encoding_streams.specs.Utf16Parts.{IsPendingUtf16, IsMalformedUtf16, IsFirstPartUtf16}

-- a decoder: its byte order, and its pending bytes
pub record Utf16State : Type 0 where
  pub order : ByteOrder
  pub pending : List ℕ

-- the part needs more than the space that is left: a character its own length, a report `need` code units
abbrev pub NeedsMore : {A : Type 0} → (ℕ → List A) → ℕ → ℕ → Part → Type 0
NeedsMore encode need left (Character c) = left < length (encode c)
NeedsMore encode need left (IllFormed x) = left < need

-- What one call returns: p is pending before it, and q after it. `need` is the most code units of a character: 2 code
-- units, or 4 bytes. `cs` are the characters that it wrote, and `left` is the space after them.
abbrev pub IsUtf16DecodeResult : {A : Type 0} → ByteOrder → (ℕ → List A) → ℕ → List ℕ → List ℕ → Bool → DecoderResult → ℕ → List ℕ → ℕ → List ℕ → Type 0
IsUtf16DecodeResult order encode need p src last InputEmpty read cs left q =
    (read ≡ length src) × (p ++ src ≡ bytes_of_scalars order cs ++ q) × (last ≡ true → q ≡ [])
IsUtf16DecodeResult order encode need p src last OutputFull read cs left q =
    (0 < length src) × (read ≤ length src) × (p ++ take read src ≡ bytes_of_scalars order cs ++ q) × (q ≢ [] → (read ≡ 0) × (q ≡ p))
    × (part : Part) × (after : List ℕ) × IsFirstPartUtf16 order last (q ++ drop read src) part after × NeedsMore encode need left part
IsUtf16DecodeResult order encode need p src last (Malformed k second) read cs left q =
    (x : List ℕ) × (read ≤ length src) × (p ++ take read src ≡ bytes_of_scalars order cs ++ (x ++ q)) × (length x ≡ k) × (length q ≡ second) × (q ≢ [] → read ≡ 0)
    × IsMalformedUtf16 order x (q ++ drop read src) last × (0 < length src → need ≤ left)

-- one call, which reads the first `read` bytes of src and writes `out`
pub record DecodeUtf16Step {A : Type 0} (order : ByteOrder) (encode : ℕ → List A) (need : ℕ) (p src : List ℕ) (room : ℕ) (last : Bool) (result : DecoderResult) (read : ℕ) (out : List A) (q : List ℕ) : Type 0 where
  pub scalars : List ℕ
  pub are_scalars : all_scalars scalars ≡ true
  pub out_is : out ≡ flat_map encode scalars
  pub fits : length out ≤ room
  pub pending_before : IsPendingUtf16 order p
  pub pending : IsPendingUtf16 order q
  pub answer : IsUtf16DecodeResult order encode need p src last result read scalars (room - length out) q

-- one call into a destination, whose rest is unchanged
abbrev pub DecodeUtf16StepInto : {A : Type 0} → ByteOrder → (ℕ → List A) → ℕ → List ℕ → List ℕ → List A → List A → Bool → DecoderResult → ℕ → ℕ → List ℕ → Type 0
DecodeUtf16StepInto {A} order encode need p src old new last result read written q =
    (out : List A) × WritesPrefix old new written out × DecodeUtf16Step order encode need p src (length old) last result read out q

-- The numbers of the queries: the length of a destination for n bytes that follow `pending` pending ones.
abbrev pub max_utf16_length_from_utf16 : ℕ → ℕ → ℕ
max_utf16_length_from_utf16 n pending = (n + pending + 1) / 2 + 1

-- the same for UTF-8
abbrev pub max_utf8_length_from_utf16 : ℕ → ℕ → ℕ
max_utf8_length_from_utf16 n pending = 3 * ((n + pending + 1) / 2) + 1

-- the same length is large enough if U+FFFD, of `replacement` code units, is written for each report; no bytes follow a
-- call marked last
abbrev pub SufficesReplacingUtf16 : (ℕ → ℕ → ℕ) → ℕ → List ℕ → List ℕ → ℕ → Bool → DecoderResult → ℕ → ℕ → List ℕ → Type 0
SufficesReplacingUtf16 query replacement p src room last result read written q =
    (m : ℕ) → length src ≤ m → (last ≡ true → m ≡ length src) → query m (length p) ≤ room → IsReport result
    → written + replacement + query (m - read) (length q) ≤ room
