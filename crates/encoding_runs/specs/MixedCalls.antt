-- Calls of a decoder of any of its three forms.
use Rattle.std.specs.Prelude.{◌≡◌, ℕ, ◌≤◌, Bool, List, [], length, encode_utf8}
use Rattle.std.specs.Char.Escape.{encode_utf16}
use Rattle.std.specs.List.{flat_map}
use Rattle.std.specs.Str.{chars}
use Rattle.encoding_definitions.specs.Parts.{Part}
use Rattle.encoding_text.specs.Decoding.{AreDecoded, AreBorrowed, DecodeStep, BorrowedDecodeStep, max_utf16_length, max_utf8_length}
use Rattle.encoding_text.specs.OneResult.{AreSamePiece}
use Rattle.encoding_text.specs.declared.decoder.DecoderResult.{DecoderResult}
use Rattle.encoding_text.specs.declared.decoder.DecoderResult.TheVariants as result
use Rattle.encoding_text.specs.declared.decoder.Piece.{Piece}
use Rattle.encoding_text.specs.declared.decoder.Piece.TheVariants as piece
use Rattle.encoding_runs.specs.Calls.{Call}

-- the form of a call: to UTF-16 or to UTF-8, with this much space, or without a destination
pub data Form : Type 0 where
  ToUtf16 : ℕ → Form
  ToUtf8 : ℕ → Form
  Borrowed : Form

-- what it returns: a result, or a piece
pub data CallResult : Type 0 where
  Decoded : DecoderResult → CallResult
  Handed : Piece → CallResult

-- what such a call does with p pending, and src its source: without a destination it writes nothing
abbrev pub MixedDecodeStep : List ℕ → List ℕ → Form → Bool → CallResult → ℕ → List ℕ → List ℕ → Type 0
MixedDecodeStep p src (ToUtf16 room) last (Decoded r) read out q = DecodeStep encode_utf16 2 p src room last r read out q
MixedDecodeStep p src (ToUtf8 room) last (Decoded r) read out q = DecodeStep encode_utf8 4 p src room last r read out q
MixedDecodeStep p src Borrowed last (Handed returned) read out q = BorrowedDecodeStep p src last returned read q × (out ≡ [])
MixedDecodeStep p src _ last _ read out q = ⊥

-- the parts that a call yields
abbrev pub AreYielded : Form → CallResult → List ℕ → List Part → Type 0
AreYielded (ToUtf16 room) (Decoded r) units parts = AreDecoded encode_utf16 r units parts
AreYielded (ToUtf8 room) (Decoded r) bytes parts = AreDecoded encode_utf8 r bytes parts
AreYielded Borrowed (Handed returned) out parts = AreBorrowed returned parts
AreYielded _ _ out parts = ⊥

-- `InputEmpty` is returned
abbrev pub IsInputEmpty : CallResult → Type 0
IsInputEmpty (Decoded r) = r ≡ result.InputEmpty
IsInputEmpty (Handed returned) = returned ≡ piece.InputEmpty

-- the two answers are the same, except for where in memory a text is
abbrev pub ResultsAgree : CallResult → CallResult → Type 0
ResultsAgree (Decoded r) (Decoded r') = r ≡ r'
ResultsAgree (Handed returned) (Handed returned') = AreSamePiece returned returned'
ResultsAgree _ _ = ⊥

-- the two calls have the same form, the same piece and the same mark
abbrev pub AreAskedTheSame : Call Form CallResult ℕ → Call Form CallResult ℕ → Type 0
AreAskedTheSame call other = (call.form ≡ other.form) × (call.piece ≡ other.piece) × (call.last ≡ other.last)

-- they return the same, read as many bytes, write the same and leave the same pending
abbrev pub ReturnTheSame : Call Form CallResult ℕ → Call Form CallResult ℕ → Type 0
ReturnTheSame call other =
    ResultsAgree call.result other.result × (call.read ≡ other.read) × (call.out ≡ other.out) × (call.pending ≡ other.pending)

-- the text of the bytes fits into the space of the call
abbrev pub TextFits : Form → List ℕ → Type 0
TextFits (ToUtf16 room) src = length (flat_map encode_utf16 (chars src)) ≤ room
TextFits (ToUtf8 room) src = length src ≤ room
TextFits Borrowed src = Unit {0}

-- the space of the call is at least the queried length for n bytes and nothing pending
abbrev pub HasQueriedLength : Form → ℕ → Type 0
HasQueriedLength (ToUtf16 room) n = max_utf16_length n 0 ≤ room
HasQueriedLength (ToUtf8 room) n = max_utf8_length n 0 ≤ room
HasQueriedLength Borrowed n = Unit {0}

-- the piece is these bytes as a text, or `InputEmpty` if there are none
abbrev pub IsWholePiece : Piece → List ℕ → Type 0
IsWholePiece (piece.Text t) src = t.now ≡ src
IsWholePiece (piece.Char c) src = ⊥
IsWholePiece (piece.Malformed k) src = ⊥
IsWholePiece piece.InputEmpty src = src ≡ []

-- `InputEmpty` is returned and the text is written, or, without a destination, the text is returned
abbrev pub IsWholeText : Form → List ℕ → CallResult → List ℕ → Type 0
IsWholeText (ToUtf16 room) src (Decoded r) units = (r ≡ result.InputEmpty) × (units ≡ flat_map encode_utf16 (chars src))
IsWholeText (ToUtf8 room) src (Decoded r) bytes = (r ≡ result.InputEmpty) × (bytes ≡ src)
IsWholeText Borrowed src (Handed returned) out = IsWholePiece returned src
IsWholeText _ src _ out = ⊥

-- the call reads all of a text, and leaves nothing pending
abbrev pub ReadsText : Form → List ℕ → CallResult → ℕ → List ℕ → List ℕ → Type 0
ReadsText form src answer read out q = IsWholeText form src answer out × (read ≡ length src) × (q ≡ [])
