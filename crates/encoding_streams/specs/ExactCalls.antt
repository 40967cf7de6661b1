-- Exactly what a call of a decoder returns: for given decoder, source, space and mark there is one result. Encoding
-- Standard, "decode".
use Rattle.std.specs.Prelude.{◌≡◌, ◌⊎◌, ℕ, suc, ◌+◌, ◌-◌, ◌<◌, ◌≤◌, Bool, true, false, List, [], ◌∷◌, ◌++◌, length, drop, Option, None, Some}
use Rattle.encoding_definitions.specs.Sequence.{IsPending}
use Rattle.encoding_text.specs.Decoding.{DecodeStep}
use Rattle.encoding_text.specs.declared.decoder.DecoderResult.{DecoderResult}
use Rattle.encoding_text.specs.declared.decoder.DecoderResult.TheVariants.{InputEmpty, OutputFull, Malformed}
use Rattle.encoding_text.specs.declared.utf_16.ByteOrder.TheVariants.{LittleEndian, BigEndian}
use Rattle.encoding_streams.specs.declared.encoding.Encoding.{Encoding}
use Rattle.encoding_streams.specs.declared.encoding.Encoding.TheVariants.{Utf8, Utf16Le, Utf16Be}
use Rattle.encoding_streams.specs.declared.encoding.BomHandling.{BomHandling}
use Rattle.encoding_streams.specs.declared.encoding.BomHandling.TheVariants.{Off}
use Rattle.encoding_streams.specs.declared.encoding.CoderResult.{CoderResult}
use Rattle.encoding_streams.specs.declared.encoding.CoderResult.TheVariants as coder
use Rattle.encoding_streams.specs.Marks.{begins_mark, found_mark, mark}
use Rattle.encoding_streams.specs.Utf16Parts.{IsPendingUtf16}
use Rattle.encoding_streams.specs.Utf16Decoding.{DecodeUtf16Step}
use Rattle.encoding_streams.specs.Decoders.{DecoderState, decoding}

-- one call of the decoder of an encoding: p is pending before it, and q after it
abbrev pub StepIn : {A : Type 0} → (ℕ → List A) → ℕ → Encoding → List ℕ → List ℕ → ℕ → Bool → DecoderResult → ℕ → List A → List ℕ → Type 0
StepIn encode need Utf8 p src room last result read out q = DecodeStep encode need p src room last result read out q
StepIn encode need Utf16Le p src room last result read out q = DecodeUtf16Step LittleEndian encode need p src room last result read out q
StepIn encode need Utf16Be p src room last result read out q = DecodeUtf16Step BigEndian encode need p src room last result read out q

-- what a decoder of the encoding keeps between calls: none or the start of a character
abbrev pub IsPendingIn : Encoding → List ℕ → Type 0
IsPendingIn Utf8 p = IsPending p
IsPendingIn Utf16Le p = IsPendingUtf16 LittleEndian p
IsPendingIn Utf16Be p = IsPendingUtf16 BigEndian p

-- what a decoder keeps that looks for these marks: the start of one of them, or, if it looks for none, as said above
abbrev pub IsPendingOf : BomHandling → Encoding → List ℕ → Type 0
IsPendingOf bom e p = (begins_mark bom e p ≡ true) ⊎ ((bom ≡ Off) × IsPendingIn e p)

-- the result, with `rest` bytes read after the malformed sequence
abbrev pub reported_with : DecoderResult → ℕ → DecoderResult
reported_with InputEmpty rest = InputEmpty
reported_with OutputFull rest = OutputFull
reported_with (Malformed k second) rest = Malformed k rest

-- at the end of the stream, the pending bytes are malformed, and there is no space for U+FFFD
abbrev pub NeedsSpaceAtEnd : ℕ → List ℕ → List ℕ → ℕ → Bool → Type 0
NeedsSpaceAtEnd need q src room last = (length src ≡ 0) × (last ≡ true) × (0 < length q) × (room < need)

-- the source is decoded, with the start of a character, q, or nothing pending
pub record DecodesSource {A : Type 0} (encode : ℕ → List A) (need : ℕ) (e : Encoding) (q src : List ℕ) (room : ℕ) (last : Bool) (result : DecoderResult) (read : ℕ) (out : List A) (r : List ℕ) : Type 0 where
  pub full : NeedsSpaceAtEnd need q src room last → (result ≡ OutputFull) × (read ≡ 0) × (out ≡ []) × (r ≡ q)
  pub step : (NeedsSpaceAtEnd need q src room last → ⊥) → StepIn encode need e q src room last result read out r

-- what follows a call over the pending bytes p, which took `taken` of them and has q pending: the source, or nothing if
-- that call didn't read all of them
abbrev pub AfterPending : {A : Type 0} → (ℕ → List A) → ℕ → Encoding → List ℕ → ℕ → List ℕ → List ℕ → ℕ → Bool → DecoderResult → DecoderResult → ℕ → List A → List ℕ → Type 0
AfterPending encode need e p taken q src room last InputEmpty result read out r = DecodesSource encode need e q src room last result read out r
AfterPending encode need e p taken q src room last OutputFull result read out r =
    (result ≡ OutputFull) × (read ≡ 0) × (out ≡ []) × (r ≡ q ++ drop taken p)
AfterPending encode need e p taken q src room last (Malformed k second) result read out r =
    (result ≡ Malformed k (length r)) × (read ≡ 0) × (out ≡ []) × (r ≡ q ++ drop taken p)

-- the pending bytes p are decoded, as bytes that others follow, and then the source
pub record DecodesPending {A : Type 0} (encode : ℕ → List A) (need : ℕ) (e : Encoding) (p src : List ℕ) (room : ℕ) (last : Bool) (result : DecoderResult) (read : ℕ) (out : List A) (r : List ℕ) : Type 0 where
  pub ended : DecoderResult
  pub taken : ℕ
  pub first : List A
  pub more : List A
  pub q : List ℕ
  pub pending : StepIn encode need e [] p room false ended taken first q
  pub out_is : out ≡ first ++ more
  pub after : AfterPending encode need e p taken q src (room - length first) last ended result read more r

-- no bytes come, and more may follow
abbrev pub IsIdle : List ℕ → Bool → Type 0
IsIdle src last = (length src ≡ 0) × (last ≡ false)

-- a call of a decoder that looks for no mark, and has the bytes p pending
abbrev pub Decodes : {A : Type 0} → (ℕ → List A) → ℕ → Encoding → List ℕ → List ℕ → ℕ → Bool → DecoderResult → ℕ → List A → List ℕ → Type 0
Decodes encode need e [] src room last result read out r = StepIn encode need e [] src room last result read out r
Decodes encode need e (b ∷ p) src room last result read out r =
    (IsIdle src last → (result ≡ InputEmpty) × (read ≡ 0) × (out ≡ []) × (r ≡ b ∷ p))
    × ((IsIdle src last → ⊥) → DecodesPending encode need e (b ∷ p) src room last result read out r)

-- all bytes are the start of a mark that is looked for, and more may follow
abbrev pub Waits : DecoderState → List ℕ → Bool → Type 0
Waits old src last = (last ≡ false) × (begins_mark old.bom old.encoding (old.pending ++ src) ≡ true)

-- where decoding starts: the encoding, the bytes that are pending, and how many bytes of the source a mark takes
pub record Start : Type 0 where
  pub encoding : Encoding
  pub pending : List ℕ
  pub skipped : ℕ

abbrev pub start_after : DecoderState → Option Encoding → Start
start_after old None = record { encoding = old.encoding; pending = old.pending; skipped = 0 }
start_after old (Some m) = record { encoding = m; pending = []; skipped = length (mark m) - length old.pending }

abbrev pub start_of : DecoderState → List ℕ → Start
start_of old src = start_after old (found_mark old.bom old.encoding (old.pending ++ src))

-- there is no space for anything: the call reads and writes nothing
abbrev pub MakesNoProgress : {A : Type 0} → DecoderResult → ℕ → List A → Type 0
MakesNoProgress result read out = (result ≡ OutputFull) × (read ≡ 0) × (out ≡ [])

-- From there on. A call that makes no progress leaves the decoder as it is: the next one looks for the marks again.
pub record DecodesFrom {A : Type 0} (encode : ℕ → List A) (need : ℕ) (old : DecoderState) (start : Start) (src : List ℕ) (room : ℕ) (last : Bool) (result : DecoderResult) (read : ℕ) (out : List A) (new : DecoderState) : Type 0 where
  pub unchanged : MakesNoProgress result read out → new ≡ old
  pub decided : (MakesNoProgress result read out → ⊥) → new ≡ decoding start.encoding new.pending
  pub skips : start.skipped ≤ read
  pub decodes : Decodes encode need start.encoding start.pending (drop start.skipped src) room last result (read - start.skipped) out new.pending

-- one call that reports malformed sequences, and writes `out`
pub record IsExactCall {A : Type 0} (encode : ℕ → List A) (need : ℕ) (old : DecoderState) (src : List ℕ) (room : ℕ) (last : Bool) (result : DecoderResult) (read : ℕ) (out : List A) (new : DecoderState) : Type 0 where
  pub waits : Waits old src last → (result ≡ InputEmpty) × (read ≡ length src) × (out ≡ [])
      × (new ≡ record { encoding = old.encoding; bom = old.bom; pending = old.pending ++ src })
  pub decodes : (Waits old src last → ⊥) → DecodesFrom encode need old (start_of old src) src room last result read out new

-- a report: the length of the malformed sequence, and the number of bytes that were read after it
abbrev pub AreReportLengths : DecoderResult → Type 0
AreReportLengths InputEmpty = Unit {0}
AreReportLengths OutputFull = Unit {0}
AreReportLengths (Malformed k second) = (0 < k) × (k ≤ 3) × (second ≤ 1)

-- a call that reports a malformed sequence
pub record Reported (A : Type 0) : Type 0 where
  pub length : ℕ
  pub second : ℕ
  pub read : ℕ
  pub out : List A
  pub after : DecoderState

-- the same end of a call that reports
abbrev pub ended_by : CoderResult → DecoderResult
ended_by coder.InputEmpty = InputEmpty
ended_by coder.OutputFull = OutputFull

-- The calls report, one after another, with U+FFFD written after each. Then one more call ends without a report.
abbrev pub ReplaceInTurn : {A : Type 0} → (ℕ → List A) → ℕ → List (Reported A) → DecoderState → List ℕ → ℕ → Bool → CoderResult → ℕ → List A → ℕ → DecoderState → Type 0
ReplaceInTurn encode need [] old src room last result read out replaced new =
    (replaced ≡ 0) × IsExactCall encode need old src room last (ended_by result) read out new
ReplaceInTurn {A} encode need (report ∷ reports) old src room last result read out replaced new =
    IsExactCall encode need old src room last (Malformed report.length report.second) report.read report.out report.after
    × (more : ℕ) × (rest : List A) × (others : ℕ) × (read ≡ report.read + more) × (out ≡ (report.out ++ encode 0xFFFD) ++ rest) × (replaced ≡ suc others)
    × ReplaceInTurn encode need reports report.after (drop report.read src) (room - length (report.out ++ encode 0xFFFD)) last result more rest others new

-- one call that replaces malformed sequences, and writes `out`
abbrev pub IsExactReplacingCall : {A : Type 0} → (ℕ → List A) → ℕ → DecoderState → List ℕ → ℕ → Bool → CoderResult → ℕ → List A → ℕ → DecoderState → Type 0
IsExactReplacingCall {A} encode need old src room last result read out replaced new =
    (reports : List (Reported A)) × ReplaceInTurn encode need reports old src room last result read out replaced new
