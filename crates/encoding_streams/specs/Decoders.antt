-- A decoder for UTF-8, UTF-16LE and UTF-16BE, whose stream may start with a byte order mark: what is left to be decoded
-- of the stream, and what a call does. Encoding Standard, "decode".
use Rattle.std.specs.Prelude.{◌≡◌, ◌≢◌, ℕ, ◌+◌, ◌-◌, ◌<◌, ◌≤◌, max, Bool, true, List, [], ◌++◌, length, take, drop, encode_utf8}
use Rattle.std.specs.Char.{IsScalar}
use Rattle.std.specs.Char.Escape.{encode_utf16}
use Rattle.std.specs.List.{flat_map}
use Rattle.encoding_definitions.specs.Parts.{Part, StartsWith, lossy_scalar, malformed_count}
use Rattle.encoding_definitions.specs.Prefixes.{WritesPrefix}
use Rattle.encoding_text.specs.Decoding.{AreDecoded, IsReport, max_utf16_length, max_utf8_length, max_utf8_length_with_replacement}
use Rattle.encoding_text.specs.Utf16Bytes.{utf16_bytes}
use Rattle.encoding_text.specs.declared.decoder.DecoderResult.{DecoderResult}
use Rattle.encoding_text.specs.declared.decoder.DecoderResult.TheVariants as report
use Rattle.encoding_text.specs.declared.utf_16.ByteOrder.TheVariants.{LittleEndian, BigEndian}
use Rattle.encoding_streams.specs.declared.encoding.Encoding.{Encoding}
use Rattle.encoding_streams.specs.declared.encoding.Encoding.TheVariants.{Utf8, Utf16Le, Utf16Be}
use Rattle.encoding_streams.specs.declared.encoding.BomHandling.{BomHandling}
use Rattle.encoding_streams.specs.declared.encoding.BomHandling.TheVariants.{Off, Remove, Sniff}
use Rattle.encoding_streams.specs.declared.encoding.CoderResult.{CoderResult}
use Rattle.encoding_streams.specs.declared.encoding.CoderResult.TheVariants.{InputEmpty, OutputFull}
use Rattle.encoding_streams.specs.Marks.{without_mark}
use Rattle.encoding_streams.specs.Utf16Parts.{StartsWithUtf16}
use Rattle.encoding_streams.specs.Utf16Decoding.{max_utf16_length_from_utf16, max_utf8_length_from_utf16}

-- a decoder: its encoding, which marks it looks for, and the bytes that it read and that are still to be decoded
pub record DecoderState : Type 0 where
  pub encoding : Encoding
  pub bom : BomHandling
  pub pending : List ℕ

-- it looks for no mark, or for none any more
abbrev pub decoding : Encoding → List ℕ → DecoderState
decoding e p = record { encoding = e; bom = Off; pending = p }

-- what is left to be decoded, and in which encoding, of a stream with these unread bytes
abbrev pub left : DecoderState → List ℕ → Encoding × List ℕ
left state unread = without_mark state.bom state.encoding (state.pending ++ unread)

-- the parts are the first parts of the bytes, after which no more come, and rest follows them
abbrev pub StartsWithIn : Encoding → List ℕ → List Part → List ℕ → Type 0
StartsWithIn Utf8 bytes parts rest = StartsWith bytes parts rest
StartsWithIn Utf16Le bytes parts rest = StartsWithUtf16 LittleEndian true bytes parts rest
StartsWithIn Utf16Be bytes parts rest = StartsWithUtf16 BigEndian true bytes parts rest

-- a scalar value in the encoding
abbrev pub bytes_in : Encoding → ℕ → List ℕ
bytes_in Utf8 c = encode_utf8 c
bytes_in Utf16Le c = utf16_bytes LittleEndian (encode_utf16 c)
bytes_in Utf16Be c = utf16_bytes BigEndian (encode_utf16 c)

-- the bytes start with a character whose output is no longer than `room`
abbrev pub FittingBeginsIn : {A : Type 0} → Encoding → (ℕ → List A) → List ℕ → ℕ → Type 0
FittingBeginsIn e encode bytes room = (c : ℕ) × (rest : List ℕ) × IsScalar c × (bytes ≡ bytes_in e c ++ rest) × (length (encode c) ≤ room)

-- the parts are the first parts of what is left, and then that is left
pub record YieldParts (before after : Encoding × List ℕ) (parts : List Part) : Type 0 where
  pub same : after.0 ≡ before.0
  pub first : StartsWithIn before.0 before.1 parts after.1

-- the text of the parts, with U+FFFD for each malformed sequence
abbrev pub lossy_text : {A : Type 0} → (ℕ → List A) → List Part → List A
lossy_text encode parts = flat_map (λ part. encode (lossy_scalar part)) parts

-- the code units are the text of the first parts of what is left, with U+FFFD for each of `replaced` malformed sequences
pub record YieldText {A : Type 0} (encode : ℕ → List A) (before after : Encoding × List ℕ) (out : List A) (replaced : ℕ) : Type 0 where
  pub parts : List Part
  pub yields : YieldParts before after parts
  pub text : out ≡ lossy_text encode parts
  pub malformed : replaced ≡ malformed_count parts

-- What is pending after a call is the end of what was pending before it and of what it read.
abbrev pub Keeps : DecoderState → List ℕ → ℕ → DecoderState → Type 0
Keeps old src read new = (before : List ℕ) × (old.pending ++ take read src ≡ before ++ new.pending)

-- the rest of the destination may be too short for what comes next, and something does
pub record IsFull {A : Type 0} (encode : ℕ → List A) (need : ℕ) (src : List ℕ) (room read written : ℕ) (new : DecoderState) : Type 0 where
  pub little : room < written + need
  pub more : 0 < length new.pending + (length src - read)
  pub next_too_long : new.pending ≡ [] → FittingBeginsIn new.encoding encode (drop read src) (room - written) → ⊥

-- all was read, and nothing is pending if no more bytes come
abbrev pub IsAllRead : List ℕ → Bool → ℕ → DecoderState → Type 0
IsAllRead src last read new = (read ≡ length src) × (last ≡ true → (new.bom ≡ Off) × (new.pending ≡ []))

-- what ends a call that reports: after a malformed sequence, the pending bytes are those read after it
abbrev pub EndsReporting : {A : Type 0} → (ℕ → List A) → ℕ → List ℕ → ℕ → Bool → DecoderResult → ℕ → ℕ → DecoderState → Type 0
EndsReporting encode need src room last report.InputEmpty read written new = IsAllRead src last read new
EndsReporting encode need src room last report.OutputFull read written new = IsFull encode need src room read written new
EndsReporting encode need src room last (report.Malformed k second) read written new =
    (second ≡ length new.pending) × (new.bom ≡ Off) × (0 < length src → written + need ≤ room)

-- One call that reports malformed sequences. What is left for any bytes that follow, or for none if the call is marked
-- last, starts with the parts that it yields: characters, which it writes, and then a sequence that it reports.
pub record IsReportingCall {A : Type 0} (encode : ℕ → List A) (need : ℕ) (old : DecoderState) (src : List ℕ) (dst dst' : List A) (last : Bool) (result : DecoderResult) (read written : ℕ) (new : DecoderState) : Type 0 where
  pub out : List A
  pub writes : WritesPrefix dst dst' written out
  pub within : read ≤ length src
  pub parts : List Part
  pub decoded : AreDecoded encode result out parts
  pub yields : (more : List ℕ) → (last ≡ true → more ≡ []) → YieldParts (left old (src ++ more)) (left new (drop read src ++ more)) parts
  pub keeps : Keeps old src read new
  pub at_most_three : length new.pending ≤ 3
  pub ends : EndsReporting encode need src (length dst) last result read written new

-- what ends a call that replaces
abbrev pub EndsReplacing : {A : Type 0} → (ℕ → List A) → ℕ → List ℕ → ℕ → Bool → CoderResult → ℕ → ℕ → DecoderState → Type 0
EndsReplacing encode need src room last InputEmpty read written new = IsAllRead src last read new
EndsReplacing encode need src room last OutputFull read written new = IsFull encode need src room read written new

-- what a call that replaces malformed sequences reads and writes
pub record Replaces {A : Type 0} (encode : ℕ → List A) (old : DecoderState) (src : List ℕ) (dst dst' : List A) (last : Bool) (read written replaced : ℕ) (new : DecoderState) : Type 0 where
  pub out : List A
  pub writes : WritesPrefix dst dst' written out
  pub within : read ≤ length src
  pub yields : (more : List ℕ) → (last ≡ true → more ≡ []) → YieldText encode (left old (src ++ more)) (left new (drop read src ++ more)) out replaced
  pub keeps : Keeps old src read new
  pub at_most_three : length new.pending ≤ 3

-- One such call: it writes the text of the first parts of what is left.
pub record IsReplacingCall {A : Type 0} (encode : ℕ → List A) (need : ℕ) (old : DecoderState) (src : List ℕ) (dst dst' : List A) (last : Bool) (result : CoderResult) (read written replaced : ℕ) (new : DecoderState) : Type 0 where
  pub replaces : Replaces encode old src dst dst' last read written replaced new
  pub ends : EndsReplacing encode need src (length dst) last result read written new

-- What a call into a text leaves before it clears bytes: its output, which is the first `written` bytes of the text after
-- it, and then the bytes that were there.
abbrev pub before_clearing : ℕ → List ℕ → List ℕ → List ℕ
before_clearing written dst dst' = take written dst' ++ drop written dst

-- The numbers of the queries in an encoding: the length of a destination for n bytes that follow `pending` pending ones.
abbrev pub max_utf16_length_in : Encoding → ℕ → ℕ → ℕ
max_utf16_length_in Utf8 n pending = max_utf16_length n pending
max_utf16_length_in Utf16Le n pending = max_utf16_length_from_utf16 n pending
max_utf16_length_in Utf16Be n pending = max_utf16_length_from_utf16 n pending

abbrev pub max_utf8_length_in : Encoding → ℕ → ℕ → ℕ
max_utf8_length_in Utf8 n pending = max_utf8_length n pending
max_utf8_length_in Utf16Le n pending = max_utf8_length_from_utf16 n pending
max_utf8_length_in Utf16Be n pending = max_utf8_length_from_utf16 n pending

-- the same with U+FFFD for each malformed sequence
abbrev pub max_utf8_length_with_replacement_in : Encoding → ℕ → ℕ → ℕ
max_utf8_length_with_replacement_in Utf8 n pending = max_utf8_length_with_replacement n pending
max_utf8_length_with_replacement_in Utf16Le n pending = max_utf8_length_from_utf16 n pending
max_utf8_length_with_replacement_in Utf16Be n pending = max_utf8_length_from_utf16 n pending

-- of a decoder: as long as any mark may decide, the greatest number of the three encodings
abbrev pub queried_in : (Encoding → ℕ → ℕ → ℕ) → BomHandling → Encoding → ℕ → ℕ → ℕ
queried_in query Off e n pending = query e n pending
queried_in query Remove e n pending = query e n pending
queried_in query Sniff e n pending = max (query Utf8 n pending) (max (query Utf16Le n pending) (query Utf16Be n pending))

abbrev pub queried : (Encoding → ℕ → ℕ → ℕ) → DecoderState → ℕ → ℕ
queried query state n = queried_in query state.bom state.encoding n (length state.pending)

-- A destination of the queried length for m bytes that start with src is large enough: the call doesn't return
-- `OutputFull`, and the space after its output is at least the queried length for the bytes that are left. No bytes follow
-- a call marked last.
abbrev pub SufficesReporting : (Encoding → ℕ → ℕ → ℕ) → DecoderState → List ℕ → ℕ → Bool → DecoderResult → ℕ → ℕ → DecoderState → Type 0
SufficesReporting query old src room last result read written new =
    (m : ℕ) → length src ≤ m → (last ≡ true → m ≡ length src) → queried query old m ≤ room
    → (result ≢ report.OutputFull) × (written + queried query new (m - read) ≤ room)

-- the same length is large enough if U+FFFD, of `replacement` code units, is written for each report
abbrev pub SufficesBetweenReports : (Encoding → ℕ → ℕ → ℕ) → ℕ → DecoderState → List ℕ → ℕ → Bool → DecoderResult → ℕ → ℕ → DecoderState → Type 0
SufficesBetweenReports query replacement old src room last result read written new =
    (m : ℕ) → length src ≤ m → (last ≡ true → m ≡ length src) → queried query old m ≤ room → IsReport result
    → written + replacement + queried query new (m - read) ≤ room

-- the same of a call that writes U+FFFD itself
abbrev pub SufficesReplacing : (Encoding → ℕ → ℕ → ℕ) → DecoderState → List ℕ → ℕ → Bool → CoderResult → ℕ → ℕ → DecoderState → Type 0
SufficesReplacing query old src room last result read written new =
    (m : ℕ) → length src ≤ m → (last ≡ true → m ≡ length src) → queried query old m ≤ room
    → (result ≢ OutputFull) × (written + queried query new (m - read) ≤ room)
