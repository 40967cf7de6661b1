-- What the storage of a decoder with byte order marks represents between two calls, and the numbers that a call returns.
use Rattle.std.specs.Prelude.{◌≡◌, ℕ, ◌<◌, ◌≤◌, [], take}
use Rattle.encoding_streams.specs.declared.encoding.Encoding.{Encoding}
use Rattle.encoding_streams.specs.declared.encoding.Encoding.TheVariants.{Utf8, Utf16Le, Utf16Be}
use Rattle.encoding_streams.specs.declared.encoding.BomHandling.{BomHandling}
use Rattle.encoding_streams.specs.declared.encoding.BomHandling.TheVariants.{Off, Remove, Sniff}
use Rattle.encoding_streams.specs.declared.encoding.CoderResult.{CoderResult}
use Rattle.encoding_streams.specs.declared.encoding.CoderResult.TheVariants.{InputEmpty, OutputFull}
use Rattle.encoding_text.specs.declared.decoder.DecoderResult.{DecoderResult}
use Rattle.encoding_streams.specs.Decoders.{DecoderState}
use Rattle.encoding_streams.specs.ExactCalls.{IsPendingOf}
use Rattle.encoding_c.specs.States.{RunsInState, IsUtf16CodeOf}
use Rattle.encoding_c.specs.declared.stream_decoder.EncodingDecoder.{EncodingDecoder}
use Rattle.encoding_c.specs.declared.stream_decoder.EncodingCoderResult.{EncodingCoderResult}
use Rattle.encoding_c.specs.declared.utf16_decoder.EncodingDecoderResult.{EncodingDecoderResult}

-- the number of an encoding
abbrev pub IsEncodingNumber : ℕ → Encoding → Type 0
IsEncodingNumber n Utf8 = n ≡ 0
IsEncodingNumber n Utf16Le = n ≡ 1
IsEncodingNumber n Utf16Be = 1 < n

-- the number for the marks that are looked for
abbrev pub IsBomNumber : ℕ → BomHandling → Type 0
IsBomNumber n Off = n ≡ 0
IsBomNumber n Remove = n ≡ 1
IsBomNumber n Sniff = 1 < n

-- the storage holds what a call may leave there: the start of a mark that is looked for, or, if none is, of a character
abbrev pub IsValidDecoderState : EncodingDecoder → DecoderState → Type 0
IsValidDecoderState state decoder = (state.count ≤ 3) × IsPendingOf decoder.bom decoder.encoding (take state.count state.pending)

-- the decoder that the storage represents: its pending bytes are those that a call left there, and otherwise none
pub record RepresentsDecoder (state : EncodingDecoder) (decoder : DecoderState) : Type 0 where
  pub encoding : IsEncodingNumber state.encoding decoder.encoding
  pub bom : IsBomNumber state.bom decoder.bom
  pub left : IsValidDecoderState state decoder → decoder.pending ≡ take state.count state.pending
  pub other : ¬ (IsValidDecoderState state decoder) → decoder.pending ≡ []

-- the number for what ended a call that replaces
abbrev pub IsCoderCodeOf : CoderResult → ℕ → Type 0
IsCoderCodeOf InputEmpty result = result ≡ 0
IsCoderCodeOf OutputFull result = result ≡ 1

-- a call that reports malformed sequences
abbrev pub ReportingCall : EncodingDecoder → EncodingDecoder → EncodingDecoderResult → (DecoderState → DecoderResult → DecoderState → Type 0) → Type 0
ReportingCall before after numbers = RunsInState RepresentsDecoder (λ ended. IsUtf16CodeOf ended numbers.result numbers.malformed_length numbers.read_after) before after

-- a call that replaces them
abbrev pub ReplacingCall : EncodingDecoder → EncodingDecoder → EncodingCoderResult → (DecoderState → CoderResult → DecoderState → Type 0) → Type 0
ReplacingCall before after numbers = RunsInState RepresentsDecoder (λ ended. IsCoderCodeOf ended numbers.result) before after
