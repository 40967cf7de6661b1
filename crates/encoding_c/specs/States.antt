-- What the storage of a decoder or an encoder represents between two calls, and the numbers that a call returns. The
-- numbers that a run returns, whose decoder or encoder is in the caller's storage.
use Rattle.std.specs.Prelude.{◌≡◌, ◌≢◌, ℕ, ◌-◌, ◌<◌, ◌≤◌, List, [], ◌∷◌, ◌++◌, length, take, slice_index, Option, MatchOption}
use Rattle.encoding_definitions.specs.Sequence.{IsPending}
use Rattle.encoding_definitions.specs.Utf16.{IsHighSurrogate}
use Rattle.encoding_text.specs.declared.utf_16.ByteOrder.{ByteOrder}
use Rattle.encoding_text.specs.declared.utf_16.ByteOrder.TheVariants.{LittleEndian, BigEndian}
use Rattle.encoding_text.specs.declared.decoder.DecoderResult.{DecoderResult}
use Rattle.encoding_text.specs.declared.decoder.DecoderResult.TheVariants as decoder
use Rattle.encoding_text.specs.declared.decoder.Piece.{Piece}
use Rattle.encoding_text.specs.declared.decoder.Piece.TheVariants as piece
use Rattle.encoding_text.specs.declared.utf_8.encoder.EncoderResult.{EncoderResult}
use Rattle.encoding_text.specs.declared.utf_8.encoder.EncoderResult.TheVariants as encoder
use Rattle.encoding_streams.specs.Utf16Parts.{IsPendingUtf16}
use Rattle.encoding_streams.specs.Utf16Decoding.{Utf16State}
use Rattle.encoding_c.specs.declared.decoder.EncodingUtf8Decoder.{EncodingUtf8Decoder}
use Rattle.encoding_c.specs.declared.decoder.EncodingPiece.{EncodingPiece}
use Rattle.encoding_c.specs.declared.encoder.EncodingUtf8Encoder.{EncodingUtf8Encoder}
use Rattle.encoding_c.specs.declared.utf16_decoder.EncodingUtf16Decoder.{EncodingUtf16Decoder}
use Rattle.encoding_c.specs.declared.utf16_decoder.EncodingDecoderResult.{EncodingDecoderResult}
use Rattle.encoding_runs.specs.declared.run.decoding.Outcome.{Outcome}
use Rattle.encoding_runs.specs.declared.run.encoding.EncodeOutcome.{EncodeOutcome}
use Rattle.encoding_c.specs.declared.encoder.EncodingEncodeResult.{EncodingEncodeResult}
use Rattle.encoding_c.specs.declared.runs.EncodingDecodeRunResult.{EncodingDecodeRunResult}

-- the storage holds what a call may leave there: at most three bytes that may be pending
abbrev pub IsValidState : EncodingUtf8Decoder → Type 0
IsValidState state = (state.count ≤ 3) × IsPending (take state.count state.pending)

-- the pending bytes that the storage represents: those that a call left there, and otherwise none
pub record Represents (state : EncodingUtf8Decoder) (p : List ℕ) : Type 0 where
  pub left : IsValidState state → p ≡ take state.count state.pending
  pub other : ¬ (IsValidState state) → p ≡ []

-- the byte order for a number
abbrev pub IsByteOrder : ℕ → ByteOrder → Type 0
IsByteOrder big_endian LittleEndian = big_endian ≡ 0
IsByteOrder big_endian BigEndian = big_endian ≢ 0

-- the storage holds what a call of a UTF-16 decoder may leave there: at most three bytes that may be pending
abbrev pub IsValidUtf16State : EncodingUtf16Decoder → ByteOrder → Type 0
IsValidUtf16State state order = (state.count ≤ 3) × IsPendingUtf16 order (take state.count state.pending)

-- the UTF-16 decoder that the storage represents: the pending bytes are those that a call left there, and otherwise
-- none
pub record RepresentsUtf16 (state : EncodingUtf16Decoder) (decoder : Utf16State) : Type 0 where
  pub order : IsByteOrder state.big_endian decoder.order
  pub left : IsValidUtf16State state decoder.order → decoder.pending ≡ take state.count state.pending
  pub other : ¬ (IsValidUtf16State state decoder.order) → decoder.pending ≡ []

-- the code units that the storage of an encoder represents: a pending surrogate, and otherwise none
pub record RepresentsEncoder (state : EncodingUtf8Encoder) (surrogate : List ℕ) : Type 0 where
  pub high : IsHighSurrogate state.surrogate → surrogate ≡ state.surrogate ∷ []
  pub other : ¬ (IsHighSurrogate state.surrogate) → surrogate ≡ []

-- the last one of the units, or `before` if there are none
abbrev pub IsLastOf : List ℕ → ℕ → ℕ → Type 0
IsLastOf src before unit = (0 < length src → unit ≡ slice_index src (length src - 1)) × (length src ≡ 0 → unit ≡ before)

-- the unit to keep if a surrogate is pending: after InputEmpty the last unit of the source, or `before` if there is
-- none
abbrev pub IsPendingUnit : EncoderResult → List ℕ → ℕ → ℕ → Type 0
IsPendingUnit encoder.InputEmpty src before unit = IsLastOf src before unit
IsPendingUnit encoder.OutputFull src before unit = unit ≡ before

-- the two numbers for what ended a call of a decoder
abbrev pub IsCodeOf : DecoderResult → ℕ → ℕ → Type 0
IsCodeOf decoder.InputEmpty result malformed = (result ≡ 0) × (malformed ≡ 0)
IsCodeOf decoder.OutputFull result malformed = (result ≡ 1) × (malformed ≡ 0)
IsCodeOf (decoder.Malformed k second) result malformed = (result ≡ 2) × (malformed ≡ k)

-- the three numbers for what ended a call of a UTF-16 decoder
abbrev pub IsUtf16CodeOf : DecoderResult → ℕ → ℕ → ℕ → Type 0
IsUtf16CodeOf decoder.InputEmpty result malformed after = (result ≡ 0) × (malformed ≡ 0) × (after ≡ 0)
IsUtf16CodeOf decoder.OutputFull result malformed after = (result ≡ 1) × (malformed ≡ 0) × (after ≡ 0)
IsUtf16CodeOf (decoder.Malformed k second) result malformed after = (result ≡ 2) × (malformed ≡ k) × (after ≡ second)

-- the number for what ended a call of an encoder
abbrev pub IsEncodeCodeOf : EncoderResult → ℕ → Type 0
IsEncodeCodeOf encoder.InputEmpty result = result ≡ 0
IsEncodeCodeOf encoder.OutputFull result = result ≡ 1

-- the numbers for what a borrowed call returns
abbrev pub IsPieceCodeOf : Piece → EncodingPiece → Type 0
IsPieceCodeOf (piece.Text t) reported = (reported.kind ≡ 0) × (reported.character ≡ 0) × (reported.malformed_length ≡ 0)
IsPieceCodeOf (piece.Char c) reported = (reported.kind ≡ 1) × (reported.character ≡ c) × (reported.malformed_length ≡ 0)
IsPieceCodeOf (piece.Malformed k) reported = (reported.kind ≡ 2) × (reported.character ≡ 0) × (reported.malformed_length ≡ k)
IsPieceCodeOf piece.InputEmpty reported = (reported.kind ≡ 3) × (reported.character ≡ 0) × (reported.malformed_length ≡ 0)

-- An operation in the storage of a decoder or an encoder. A relation holds of what the storage represents before it,
-- what was done, and what the storage represents after it. Numbers represent what was done.
pub record RunsInState {Storage Value Done : Type 0} (Stands : Storage → Value → Type 0) (AreReported : Done → Type 0) (before after : Storage) (Says : Value → Done → Value → Type 0) : Type 0 where
  pub p : Value
  pub done : Done
  pub q : Value
  pub stood : Stands before p
  pub stands : Stands after q
  pub reported : AreReported done
  pub says : Says p done q

-- a call of the decoder
abbrev pub DecoderCall : EncodingUtf8Decoder → EncodingUtf8Decoder → ℕ → ℕ → (List ℕ → DecoderResult → List ℕ → Type 0) → Type 0
DecoderCall before after result malformed = RunsInState Represents (λ ended. IsCodeOf ended result malformed) before after

-- a call of a UTF-16 decoder, which keeps its byte order
abbrev pub Utf16Call : EncodingUtf16Decoder → EncodingUtf16Decoder → EncodingDecoderResult → (ByteOrder → List ℕ → DecoderResult → List ℕ → Type 0) → Type 0
Utf16Call before after numbers Says = RunsInState RepresentsUtf16 (λ ended. IsUtf16CodeOf ended numbers.result numbers.malformed_length numbers.read_after)
    before after (λ d ended e. (e.order ≡ d.order) × Says d.order d.pending ended e.pending)

-- a borrowed call
abbrev pub PieceCall : EncodingUtf8Decoder → EncodingUtf8Decoder → EncodingPiece → (List ℕ → Piece → List ℕ → Type 0) → Type 0
PieceCall before after numbers = RunsInState Represents (λ returned. IsPieceCodeOf returned numbers) before after

-- a call of the encoder
abbrev pub EncoderCall : EncodingUtf8Encoder → EncodingUtf8Encoder → ℕ → (List ℕ → EncoderResult → List ℕ → Type 0) → Type 0
EncoderCall before after result = RunsInState RepresentsEncoder (λ ended. IsEncodeCodeOf ended result) before after

-- the two numbers for the result of a decoder's last call: 3 and 0 if there was none
abbrev pub IsLastCodeOf : Option DecoderResult → ℕ → ℕ → Type 0
IsLastCodeOf last result malformed = MatchOption last ((result ≡ 3) × (malformed ≡ 0)) (λ ended. IsCodeOf ended result malformed)

-- the number for the result of an encoder's last call: 3 if there was none
abbrev pub IsLastEncodeCodeOf : Option EncoderResult → ℕ → Type 0
IsLastEncodeCodeOf last result = MatchOption last (result ≡ 3) (λ ended. IsEncodeCodeOf ended result)

-- a run of the decoder
abbrev pub DecoderRun : EncodingUtf8Decoder → EncodingUtf8Decoder → EncodingDecodeRunResult → (List ℕ → Outcome → List ℕ → Type 0) → Type 0
DecoderRun before after numbers = RunsInState Represents (λ outcome. (numbers.read ≡ outcome.read) × (numbers.written ≡ outcome.written)
    × (numbers.reports ≡ outcome.reports) × IsLastCodeOf outcome.result numbers.result numbers.malformed_length) before after

-- a run of the encoder
abbrev pub EncoderRun : EncodingUtf8Encoder → EncodingUtf8Encoder → EncodingEncodeResult → (List ℕ → EncodeOutcome → List ℕ → Type 0) → Type 0
EncoderRun before after numbers = RunsInState RepresentsEncoder (λ outcome. (numbers.read ≡ outcome.read) × (numbers.written ≡ outcome.written)
    × IsLastEncodeCodeOf outcome.result numbers.result) before after
