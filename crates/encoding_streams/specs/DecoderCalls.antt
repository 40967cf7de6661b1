-- Calls of a decoder that replaces malformed sequences, one after another over one stream.
use Rattle.std.specs.Prelude.{◌≡◌, ℕ, ◌+◌, Bool, true, List, [], ◌∷◌, length, take, drop, Any}
use Rattle.std.specs.List.{flat_map}
use Rattle.encoding_streams.specs.declared.encoding.CoderResult.{CoderResult}
use Rattle.encoding_streams.specs.declared.encoding.CoderResult.TheVariants.{InputEmpty}
use Rattle.encoding_streams.specs.Decoders.{DecoderState, IsReplacingCall, YieldText, left}

-- one of them: the most unread bytes that it takes, and whether it is marked last; what ends it, how many bytes it
-- reads, what it writes, for how many malformed sequences that has U+FFFD, and the decoder after it
pub record Made (A : Type 0) : Type 0 where
  pub piece : ℕ
  pub last : Bool
  pub result : CoderResult
  pub read : ℕ
  pub out : List A
  pub replaced : ℕ
  pub after : DecoderState

-- each is passed the first unread bytes, and one that is marked last all of them, and any destination
abbrev pub AreMade : {A : Type 0} → (ℕ → List A) → ℕ → DecoderState → List ℕ → List (Made A) → Type 0
AreMade encode need state unread [] = Unit {0}
AreMade {A} encode need state unread (call ∷ calls) =
    ((dst : List A) × (dst' : List A) × (call.out ≡ take (length call.out) dst')
    × IsReplacingCall encode need state (take call.piece unread) dst dst' call.last call.result call.read (length call.out) call.replaced call.after)
    × (call.last ≡ true → drop call.piece unread ≡ []) × AreMade encode need call.after (drop call.read unread) calls

-- the decoder after them
abbrev pub state_after : {A : Type 0} → DecoderState → List (Made A) → DecoderState
state_after state [] = state
state_after state (call ∷ calls) = state_after call.after calls

-- what they leave unread
abbrev pub unread_after : {A : Type 0} → List ℕ → List (Made A) → List ℕ
unread_after unread [] = unread
unread_after unread (call ∷ calls) = unread_after (drop call.read unread) calls

-- how many malformed sequences they replace
abbrev pub replaced_in_all : {A : Type 0} → List (Made A) → ℕ
replaced_in_all [] = 0
replaced_in_all (call ∷ calls) = call.replaced + replaced_in_all calls

-- Together they write the text of the first parts of what is left of the stream, without its mark, and count its
-- malformed sequences. Once a call marked last returns `InputEmpty`, nothing is left: they are all parts.
pub record WriteTheText {A : Type 0} (encode : ℕ → List A) (state : DecoderState) (stream : List ℕ) (calls : List (Made A)) : Type 0 where
  pub text : YieldText encode (left state stream) (left (state_after state calls) (unread_after stream calls)) (flat_map (λ call. call.out) calls) (replaced_in_all calls)
  pub all : Any (λ call. (call.last ≡ true) × (call.result ≡ InputEmpty)) calls → (left (state_after state calls) (unread_after stream calls)).1 ≡ []
