-- Calls of a decoder of any form, one after another over one stream: to UTF-16 or to UTF-8, and malformed sequences
-- reported or replaced.
use Rattle.std.specs.Prelude.{◌≡◌, ℕ, Bool, true, List, [], ◌∷◌, ◌++◌, length, take, drop, encode_utf8, Any}
use Rattle.std.specs.Char.Escape.{encode_utf16}
use Rattle.encoding_definitions.specs.Parts.{Part, malformed_count}
use Rattle.encoding_text.specs.Decoding.{AreDecoded}
use Rattle.encoding_text.specs.declared.decoder.DecoderResult.{DecoderResult}
use Rattle.encoding_text.specs.declared.decoder.DecoderResult.TheVariants as report
use Rattle.encoding_streams.specs.declared.encoding.CoderResult.{CoderResult}
use Rattle.encoding_streams.specs.declared.encoding.CoderResult.TheVariants as coder
use Rattle.encoding_streams.specs.Decoders.{DecoderState, IsReplacingCall, IsReportingCall, YieldParts, left, lossy_text}

-- the form of a call
pub data DecoderForm : Type 0 where
  ToUtf16 : DecoderForm
  ToUtf8 : DecoderForm

-- what ended it: of a call that reports, or of one that replaces this many malformed sequences
pub data DecoderAnswer : Type 0 where
  Reports : DecoderResult → DecoderAnswer
  Replaced : CoderResult → ℕ → DecoderAnswer

-- all of the source was read
abbrev pub EndsInput : DecoderAnswer → Type 0
EndsInput (Reports r) = r ≡ report.InputEmpty
EndsInput (Replaced r count) = r ≡ coder.InputEmpty

abbrev pub IsCallOf : {A : Type 0} → (ℕ → List A) → ℕ → DecoderState → List ℕ → List A → List A → Bool → DecoderAnswer → ℕ → ℕ → DecoderState → Type 0
IsCallOf encode need old src dst dst' last (Reports r) read written new = IsReportingCall encode need old src dst dst' last r read written new
IsCallOf encode need old src dst dst' last (Replaced r count) read written new = IsReplacingCall encode need old src dst dst' last r read written count new

abbrev pub IsFormOf : DecoderForm → DecoderState → List ℕ → List ℕ → List ℕ → Bool → DecoderAnswer → ℕ → ℕ → DecoderState → Type 0
IsFormOf ToUtf16 = IsCallOf encode_utf16 2
IsFormOf ToUtf8 = IsCallOf encode_utf8 4

-- the parts that a call yields: characters and the sequence that it reports, or those whose text it writes
abbrev pub AreOf : {A : Type 0} → (ℕ → List A) → DecoderAnswer → List A → List Part → Type 0
AreOf encode (Reports r) out parts = AreDecoded encode r out parts
AreOf encode (Replaced r count) out parts = (out ≡ lossy_text encode parts) × (count ≡ malformed_count parts)

abbrev pub AreOfForm : DecoderForm → DecoderAnswer → List ℕ → List Part → Type 0
AreOfForm ToUtf16 = AreOf encode_utf16
AreOfForm ToUtf8 = AreOf encode_utf8

-- one of them: its form, the most unread bytes that it takes, and whether it is marked last; what ends it, how many bytes
-- it reads, what it writes, and the decoder after it
pub record Mixed : Type 0 where
  pub form : DecoderForm
  pub piece : ℕ
  pub last : Bool
  pub answer : DecoderAnswer
  pub read : ℕ
  pub out : List ℕ
  pub after : DecoderState

-- each is passed the first unread bytes, and one that is marked last all of them, and any destination
abbrev pub AreMixed : DecoderState → List ℕ → List Mixed → Type 0
AreMixed state unread [] = Unit {0}
AreMixed state unread (call ∷ calls) =
    ((dst : List ℕ) × (dst' : List ℕ) × (call.out ≡ take (length call.out) dst')
    × IsFormOf call.form state (take call.piece unread) dst dst' call.last call.answer call.read (length call.out) call.after)
    × (call.last ≡ true → drop call.piece unread ≡ []) × AreMixed call.after (drop call.read unread) calls

-- the decoder after them, and what they leave unread
abbrev pub after_mixed : DecoderState → List Mixed → DecoderState
after_mixed state [] = state
after_mixed state (call ∷ calls) = after_mixed call.after calls

abbrev pub unread_by_mixed : List ℕ → List Mixed → List ℕ
unread_by_mixed unread [] = unread
unread_by_mixed unread (call ∷ calls) = unread_by_mixed (drop call.read unread) calls

-- in sequence they yield these parts
abbrev pub AreOfMixed : List Mixed → List Part → Type 0
AreOfMixed [] parts = parts ≡ []
AreOfMixed (call ∷ calls) parts = (first : List Part) × (more : List Part) × (parts ≡ first ++ more) × AreOfForm call.form call.answer call.out first
    × AreOfMixed calls more

-- They are the first parts of what is left of the stream, without its mark. Once a call marked last returns `InputEmpty`,
-- nothing is left: they are all parts.
pub record YieldTheStream (state : DecoderState) (stream : List ℕ) (calls : List Mixed) : Type 0 where
  pub parts : List Part
  pub in_sequence : AreOfMixed calls parts
  pub yields : YieldParts (left state stream) (left (after_mixed state calls) (unread_by_mixed stream calls)) parts
  pub all : Any (λ call. (call.last ≡ true) × EndsInput call.answer) calls
      → (left (after_mixed state calls) (unread_by_mixed stream calls)).1 ≡ []
