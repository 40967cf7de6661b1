-- What a conversion and a decode call may return: Encoding Standard, UTF-8 decoder. And which parts a call yields, by
-- its result.
use Rattle.std.specs.Prelude.{◌≡◌, ◌≢◌, ℕ, ◌+◌, ◌-◌, ◌*◌, ◌<◌, ◌≤◌, Bool, true, List, [], ◌∷◌, ◌++◌, length, take, drop, ◌⊎◌, encode_utf8, encode_utf8_all, map}
use Rattle.std.specs.Str.{all_scalars, IsUtf8, chars}
use Rattle.std.specs.Char.{IsScalar}
use Rattle.std.specs.List.{flat_map}
use Rattle.encoding_definitions.specs.Sequence.{IsSequence, IsIncomplete, IsNeverLeading, IsPending}
use Rattle.encoding_definitions.specs.Prefixes.{IsLongestPrefix, WritesPrefix}
use Rattle.encoding_definitions.specs.Converting.{FittingBegins}
use Rattle.encoding_text.specs.declared.decoder.DecoderResult.{DecoderResult}
use Rattle.encoding_text.specs.declared.decoder.DecoderResult.TheVariants.{InputEmpty, OutputFull, Malformed}
use Rattle.encoding_text.specs.declared.decoder.Piece.{Piece}
use Rattle.encoding_text.specs.declared.decoder.Piece.TheVariants as piece
use Rattle.encoding_definitions.specs.Parts.{Part, Character, IllFormed}

-- x is a malformed sequence, with these bytes unread after it
abbrev pub IsMalformed : List ℕ → List ℕ → Bool → Type 0
IsMalformed x [] last = ((b : ℕ) × (x ≡ b ∷ []) × IsNeverLeading b) ⊎ (IsIncomplete x × (last ≡ true))
IsMalformed x (y ∷ ys) last = ((b : ℕ) × (x ≡ b ∷ []) × IsNeverLeading b)
    ⊎ (IsIncomplete x × ((IsSequence (x ++ y ∷ []) ⊎ IsIncomplete (x ++ y ∷ [])) → ⊥))

-- What one call returns: p is pending before it, and q after it. `need` is the most code units of a character: 2 code
-- units, or 4 bytes. `cs` are the characters that it wrote, and `left` is the space after them.
abbrev pub IsDecodeResult : {A : Type 0} → (ℕ → List A) → ℕ → List ℕ → List ℕ → Bool → DecoderResult → ℕ → List ℕ → ℕ → List ℕ → Type 0
IsDecodeResult encode need p src last InputEmpty read cs left q =
    (read ≡ length src) × (p ++ src ≡ encode_utf8_all cs ++ q) × (last ≡ true → q ≡ []) × (q ≢ [] → 0 < read → need ≤ left)
IsDecodeResult encode need p src last OutputFull read cs left q =
    (read < length src) × (p ++ take read src ≡ encode_utf8_all cs ++ q) × (left < need)
    × (q ≡ [] → FittingBegins encode (drop read src) left → ⊥)
    × (q ≢ [] → (read ≡ 0) × (q ≡ p))
IsDecodeResult encode need p src last (Malformed k second) read cs left q =
    (x : List ℕ) × (second ≡ 0) × (read ≤ length src) × (p ++ take read src ≡ encode_utf8_all cs ++ x) × (length x ≡ k) × (q ≡ [])
    × IsMalformed x (drop read src) last × (0 < length src → need ≤ left)

-- one call, which reads the first `read` bytes of src and writes `out`
pub record DecodeStep {A : Type 0} (encode : ℕ → List A) (need : ℕ) (p src : List ℕ) (room : ℕ) (last : Bool) (result : DecoderResult) (read : ℕ) (out : List A) (q : List ℕ) : Type 0 where
  pub scalars : List ℕ
  pub are_scalars : all_scalars scalars ≡ true
  pub out_is : out ≡ flat_map encode scalars
  pub fits : length out ≤ room
  pub pending_before : IsPending p
  pub pending : IsPending q
  pub answer : IsDecodeResult encode need p src last result read scalars (room - length out) q
  pub pending_needs_room : p ≢ [] → 0 < read → need ≤ room

-- What a call that borrows from its source returns: p is pending before it, and q after it.
abbrev pub IsBorrowedResult : List ℕ → List ℕ → Bool → Piece → ℕ → List ℕ → Type 0
IsBorrowedResult p src last (piece.Text t) read q =
    (p ≡ []) × (q ≡ []) × (0 < read) × (t.now ≡ take read src) × IsLongestPrefix IsUtf8 src read
IsBorrowedResult p src last (piece.Char c) read q =
    (p ≢ []) × (q ≡ []) × (read ≤ length src) × IsScalar c × (p ++ take read src ≡ encode_utf8 c)
IsBorrowedResult p src last (piece.Malformed k) read q =
    (read ≤ length src) × (length (p ++ take read src) ≡ k) × (q ≡ []) × IsMalformed (p ++ take read src) (drop read src) last
IsBorrowedResult p src last piece.InputEmpty read q = (read ≡ length src) × (q ≡ p ++ src) × (last ≡ true → q ≡ [])

-- one such call
pub record BorrowedDecodeStep (p src : List ℕ) (last : Bool) (returned : Piece) (read : ℕ) (q : List ℕ) : Type 0 where
  pub pending_before : IsPending p
  pub pending : IsPending q
  pub answer : IsBorrowedResult p src last returned read q

-- The numbers of the queries: the length of a destination for n bytes that follow `pending` pending ones.
abbrev pub max_utf16_length : ℕ → ℕ → ℕ
max_utf16_length n pending = n + 1 + pending

abbrev pub max_utf8_length : ℕ → ℕ → ℕ
max_utf8_length n pending = n + 3 + pending

-- the same with U+FFFD for each malformed sequence
abbrev pub max_utf8_length_with_replacement : ℕ → ℕ → ℕ
max_utf8_length_with_replacement n pending = 3 * (n + pending) + 3

-- A destination of the queried length for m bytes that start with src is large enough: the call doesn't return
-- `OutputFull`, and the space after its output is at least the queried length for the bytes that are left.
abbrev pub Suffices : (ℕ → ℕ → ℕ) → List ℕ → List ℕ → ℕ → DecoderResult → ℕ → ℕ → List ℕ → Type 0
Suffices query p src room result read written q =
    (m : ℕ) → length src ≤ m → query m (length p) ≤ room → (result ≢ OutputFull) × (written + query (m - read) (length q) ≤ room)

-- a malformed sequence is reported
abbrev pub IsReport : DecoderResult → Type 0
IsReport result = (k : ℕ) × (second : ℕ) × (result ≡ Malformed k second)

-- the same length is large enough if U+FFFD, of `replacement` code units, is written for each report
abbrev pub SufficesReplacing : (ℕ → ℕ → ℕ) → ℕ → List ℕ → List ℕ → ℕ → DecoderResult → ℕ → ℕ → List ℕ → Type 0
SufficesReplacing query replacement p src room result read written q =
    (m : ℕ) → length src ≤ m → query m (length p) ≤ room → IsReport result → written + replacement + query (m - read) (length q) ≤ room

-- one call into a destination, whose rest is unchanged
abbrev pub DecodeStepInto : {A : Type 0} → (ℕ → List A) → ℕ → List ℕ → List ℕ → List A → List A → Bool → DecoderResult → ℕ → ℕ → List ℕ → Type 0
DecodeStepInto {A} encode need p src old new last result read written q =
    (out : List A) × WritesPrefix old new written out × DecodeStep encode need p src (length old) last result read out q

-- the parts that are reported: a malformed sequence of k bytes, or none
abbrev pub IsReported : DecoderResult → List Part → Type 0
IsReported InputEmpty parts = parts ≡ []
IsReported OutputFull parts = parts ≡ []
IsReported (Malformed k second) parts = (x : List ℕ) × (parts ≡ IllFormed x ∷ []) × (length x ≡ k)

-- the characters that are written, and then the part that is reported
abbrev pub AreDecoded : {A : Type 0} → (ℕ → List A) → DecoderResult → List A → List Part → Type 0
AreDecoded encode result out parts = (cs : List ℕ) × (reported : List Part) × (all_scalars cs ≡ true) × (out ≡ flat_map encode cs)
    × IsReported result reported × (parts ≡ map Character cs ++ reported)

-- the characters of the text, the character, or the malformed sequence of k bytes
abbrev pub AreBorrowed : Piece → List Part → Type 0
AreBorrowed (piece.Text t) parts = parts ≡ map Character (chars t.now)
AreBorrowed (piece.Char c) parts = parts ≡ Character c ∷ []
AreBorrowed (piece.Malformed k) parts = (x : List ℕ) × (parts ≡ IllFormed x ∷ []) × (length x ≡ k)
AreBorrowed piece.InputEmpty parts = parts ≡ []
