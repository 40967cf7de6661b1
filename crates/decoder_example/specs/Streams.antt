-- What a call appends to the text of a stream, and what calls in sequence yield of one.
use Rattle.std.specs.Prelude.{◌≡◌, ℕ, Bool, true, List, [], ◌++◌, length, encode_utf8, encode_utf8_all}
use Rattle.std.specs.List.{flat_map}
use Rattle.encoding_text.specs.Parts.{Part, ArePartsOf, AreFinal, lossy_utf8, lossy_utf16}
use Rattle.encoding_text.specs.declared.decoder.DecoderResult.{DecoderResult}
use Rattle.encoding_text.specs.declared.decoder.DecoderResult.TheVariants.{InputEmpty}
use Rattle.encoding_runs.specs.Calls.{Call, pending_after, AreYieldedInSequence}
use Rattle.encoding_runs.specs.MixedCalls.{Form, CallResult, AreYielded}
use Rattle.encoding_streams.specs.Decoders.{DecoderState, YieldText, left}
use Rattle.encoding_streams.specs.declared.encoding.BomHandling.TheVariants.{Off}

-- The text that a piece appends is that of the first parts of what is left of the stream, for any following bytes. After
-- the last piece nothing is left.
pub record AppendsText (old : DecoderState) (piece : List ℕ) (last : Bool) (text text' : List ℕ) (replaced : ℕ) (new : DecoderState) : Type 0 where
  pub out : List ℕ
  pub appended : text' ≡ text ++ out
  pub yields : (more : List ℕ) → (last ≡ true → more ≡ []) → YieldText encode_utf8 (left old (piece ++ more)) (left new more) out replaced
  pub ended : last ≡ true → (new.bom ≡ Off) × (new.pending ≡ [])

-- The calls yield, in sequence, the final parts of what was pending and of the stream. Their text is a prefix of the
-- text of both and of anything after them, in UTF-8 and in UTF-16.
pub record YieldFinalParts (p stream : List ℕ) (calls : List (Call Form CallResult ℕ)) : Type 0 where
  pub parts : List Part
  pub yielded : AreYieldedInSequence AreYielded calls parts
  pub are_final : AreFinal (p ++ stream) parts (pending_after p calls)
  pub utf8 : (more : List ℕ) (all : List Part) → ArePartsOf (p ++ stream ++ more) all → (text : List ℕ) × (lossy_utf8 all ≡ lossy_utf8 parts ++ text)
  pub utf16 : (more : List ℕ) (all : List Part) → ArePartsOf (p ++ stream ++ more) all → (units : List ℕ) × (lossy_utf16 all ≡ lossy_utf16 parts ++ units)

-- all of a text is read and written, and nothing is pending
abbrev pub TakesWhole : {A : Type 0} → (ℕ → List A) → List ℕ → DecoderResult → ℕ → List A → List ℕ → Type 0
TakesWhole encode scalars result read out q =
    (result ≡ InputEmpty) × (read ≡ length (encode_utf8_all scalars)) × (out ≡ flat_map encode scalars) × (q ≡ [])
