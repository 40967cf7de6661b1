-- What private functions of the decoder promise; no public contract cites these.
use Rattle.std.specs.Prelude.{◌≡◌, ◌⊎◌, ℕ, ◌+◌, ◌-◌, ◌<◌, ◌≤◌, Bool, true, false, List, [], ◌++◌, length, drop, Option, None, Some, IfSome}
use Rattle.encoding_text.specs.declared.utf_16.ByteOrder.{ByteOrder}
use Rattle.encoding_text.specs.declared.utf_16.ByteOrder.TheVariants.{LittleEndian, BigEndian}
use Rattle.encoding_streams.specs.declared.encoding.Encoding.{Encoding}
use Rattle.encoding_streams.specs.declared.encoding.Encoding.TheVariants.{Utf8, Utf16Le, Utf16Be}
use Rattle.encoding_streams.specs.declared.decoder.inner.Inner.{Inner}
use Rattle.encoding_streams.specs.declared.decoder.inner.Inner.TheVariants as inner
use Rattle.encoding_streams.specs.declared.encoding.BomHandling.TheVariants.{Off, Sniff}
use Rattle.encoding_text.specs.Decoding.{IsReport}
use Rattle.encoding_streams.specs.declared.encoding.CoderResult.{CoderResult}
use Rattle.encoding_streams.specs.declared.encoding.CoderResult.TheVariants as coder
use Rattle.encoding_text.specs.declared.decoder.DecoderResult.{DecoderResult}
use Rattle.encoding_text.specs.declared.decoder.DecoderResult.TheVariants.{InputEmpty, OutputFull, Malformed}
use Rattle.encoding_streams.specs.declared.decoder.state.State.{State}
use Rattle.encoding_streams.specs.Marks.{begins_mark}
use Rattle.encoding_streams.specs.ExactCalls.{IsExactCall, IsExactReplacingCall, Waits, ended_by, start_of}
use Rattle.encoding_streams.specs.Decoders.{DecoderState, decoding, left, Keeps, IsReportingCall, SufficesReporting, SufficesBetweenReports, Replaces, EndsReplacing, queried}

-- the encoding of this byte order
abbrev pub encoding_of : ByteOrder → Encoding
encoding_of LittleEndian = Utf16Le
encoding_of BigEndian = Utf16Be

-- one of the two decoders, as a decoder that looks for no mark
abbrev pub state_of : Inner → DecoderState
state_of (inner.OfUtf8 p) = decoding Utf8 p
state_of (inner.OfUtf16 s) = decoding (encoding_of s.order) s.pending

-- the state of a decoder
abbrev pub shown : State → DecoderState
shown s = record { encoding = s.encoding; bom = s.bom; pending = s.pending }

-- The start of a stream is read: all of it, if a mark may still come, or a mark, or nothing.
pub record IsSniffed (old : DecoderState) (src : List ℕ) (last : Bool) (new : DecoderState) (read : ℕ) : Type 0 where
  pub within : read ≤ length src
  pub same : (more : List ℕ) → (last ≡ true → more ≡ []) → left new (drop read src ++ more) ≡ left old (src ++ more)
  pub keeps : Keeps old src read new
  pub at_most_three : length new.pending ≤ 3
  pub still : (new.bom ≡ Off) ⊎ ((read ≡ length src) × (last ≡ false) × (new.bom ≡ old.bom) × (begins_mark new.bom new.encoding new.pending ≡ true))
  pub encoding : (old.bom ≡ Sniff) ⊎ (new.encoding ≡ old.encoding)
  pub found : 0 < read → new.bom ≡ Off → new.pending ≡ []
  pub stays : read ≡ 0 → (new.encoding ≡ old.encoding) × (new.pending ≡ old.pending)
  pub waiting : (new.bom ≡ Off → ⊥) → Waits old src last × (new ≡ record { encoding = old.encoding; bom = old.bom; pending = old.pending ++ src })
  pub decided : new.bom ≡ Off → (Waits old src last → ⊥)
      × (start_of old src ≡ record { encoding = new.encoding; pending = new.pending; skipped = read })

-- how many malformed sequences a step replaced: one, if it doesn't end the call
abbrev pub replaced_by : Option CoderResult → ℕ
replaced_by None = 1
replaced_by (Some r) = 0

-- a destination of the queried length for m bytes that start with src has the queried length left for the rest of them
abbrev pub LeavesRoom : (Encoding → ℕ → ℕ → ℕ) → DecoderState → List ℕ → ℕ → Bool → ℕ → ℕ → DecoderState → Type 0
LeavesRoom query old src room last read written new =
    (m : ℕ) → length src ≤ m → (last ≡ true → m ≡ length src) → queried query old m ≤ room → written + queried query new (m - read) ≤ room

-- a step of a call that replaces malformed sequences: one call that reports, and U+FFFD for what it reports
pub record IsReplacingStep {A : Type 0} (encode : ℕ → List A) (need : ℕ) (query : Encoding → ℕ → ℕ → ℕ) (old : DecoderState) (src : List ℕ) (dst dst' : List A) (last : Bool) (result : Option CoderResult) (read written : ℕ) (new : DecoderState) : Type 0 where
  pub replaces : Replaces encode old src dst dst' last read written (replaced_by result) new
  pub leaves : LeavesRoom query old src (length dst) last read written new
  pub ends : IfSome result (λ r. EndsReplacing encode need src (length dst) last r read written new)
  pub suffices : result ≡ Some coder.OutputFull → (m : ℕ) → length src ≤ m → (last ≡ true → m ≡ length src) → queried query old m ≤ length dst → ⊥
  pub goes_on : result ≡ None → (new.bom ≡ Off) × (0 < written)

-- some of these steps
pub record AreReplacingSteps {A : Type 0} (encode : ℕ → List A) (query : Encoding → ℕ → ℕ → ℕ) (old : DecoderState) (src : List ℕ) (dst dst' : List A) (last : Bool) (read written replaced : ℕ) (new : DecoderState) : Type 0 where
  pub replaces : Replaces encode old src dst dst' last read written replaced new
  pub leaves : LeavesRoom query old src (length dst) last read written new
  pub few : replaced ≤ written

-- a call that reports, and what the queries say of it
pub record Reports {A : Type 0} (encode : ℕ → List A) (need : ℕ) (query replacing : Encoding → ℕ → ℕ → ℕ) (old : DecoderState) (src : List ℕ) (dst dst' : List A) (last : Bool) (result : DecoderResult) (read written : ℕ) (new : DecoderState) : Type 0 where
  pub call : IsReportingCall encode need old src dst dst' last result read written new
  pub suffices : SufficesReporting query old src (length dst) last result read written new
  pub between_reports : SufficesReporting replacing old src (length dst) last result read written new
  pub replaced : SufficesBetweenReports replacing (length (encode 0xFFFD)) old src (length dst) last result read written new

-- with nothing to read and nothing pending a call reports nothing; otherwise `need` code units are free after a report
abbrev pub LeavesFree : ℕ → List ℕ → List ℕ → ℕ → DecoderResult → ℕ → Type 0
LeavesFree need p src room result written = IsReport result → 0 < length p + length src → written + need ≤ room

-- what ends a call with nothing to read, of a decoder with q pending: all was read, or a report of q needs more space
abbrev pub IsStop : ℕ → List ℕ → List ℕ → ℕ → Bool → Option DecoderResult → Type 0
IsStop need q src room last None = (0 < length src) ⊎ (need ≤ room)
IsStop need q src room last (Some InputEmpty) = (length src ≡ 0) × (last ≡ true → q ≡ [])
IsStop need q src room last (Some OutputFull) = (length src ≡ 0) × (0 < length q) × (room < need) × (last ≡ true)
IsStop need q src room last (Some (Malformed k second)) = ⊥

-- exactly what a step of a call that replaces returns: `out` ends with U+FFFD if the call goes on
abbrev pub IsExactStep : {A : Type 0} → (ℕ → List A) → ℕ → DecoderState → List ℕ → ℕ → Bool → Option CoderResult → ℕ → List A → DecoderState → Type 0
IsExactStep {A} encode need old src room last None read out new = (k : ℕ) × (second : ℕ) × (before : List A) × (out ≡ before ++ encode 0xFFFD)
    × IsExactCall encode need old src room last (Malformed k second) read before new
IsExactStep encode need old src room last (Some result) read out new = IsExactCall encode need old src room last (ended_by result) read out new

-- some of these steps, which read `read` bytes and wrote `out`: what follows them ends the call
abbrev pub Continues : {A : Type 0} → (ℕ → List A) → ℕ → DecoderState → DecoderState → List ℕ → ℕ → Bool → ℕ → List A → ℕ → Type 0
Continues {A} encode need old mid src room last read out replaced = (result : CoderResult) (more : ℕ) (rest : List A) (again : ℕ) (new : DecoderState)
    → IsExactReplacingCall encode need mid (drop read src) (room - length out) last result more rest again new
    → IsExactReplacingCall encode need old src room last result (read + more) (out ++ rest) (replaced + again) new
