-- What calls of a UTF-16LE or UTF-16BE decoder yield, one after another over one stream.
use Rattle.std.specs.Prelude.{◌≡◌, ℕ, ◌≤◌, true, List, ◌++◌, length, take, drop, Any}
use Rattle.std.specs.List.{flat_map}
use Rattle.encoding_text.specs.Parts.{Part}
use Rattle.encoding_text.specs.Decoding.{AreDecoded}
use Rattle.encoding_text.specs.declared.utf_16.ByteOrder.{ByteOrder}
use Rattle.encoding_text.specs.declared.decoder.DecoderResult.{DecoderResult}
use Rattle.encoding_text.specs.declared.decoder.DecoderResult.TheVariants.{InputEmpty}
use Rattle.encoding_runs.specs.Calls.{Call, read_in_all, pending_after, some_last, AreYieldedInSequence}
use Rattle.encoding_streams.specs.Utf16Parts.{bytes_of_utf16, IsPendingUtf16, StartsWithUtf16, ArePartsOfUtf16}

-- In sequence the calls yield the first parts of p and b. The bytes of these parts, then what is pending, are p and the
-- bytes read. If no call is marked last, they are the first parts for any continuation of b. Once a call marked last
-- returns `InputEmpty`, they are all parts.
pub record YieldUtf16Parts {A : Type 0} (order : ByteOrder) (encode : ℕ → List A) (p b : List ℕ) (calls : List (Call ℕ DecoderResult A)) : Type 0 where
  pub parts : List Part
  pub in_sequence : AreYieldedInSequence (λ room. AreDecoded encode) calls parts
  pub within : read_in_all calls ≤ length b
  pub first : StartsWithUtf16 order (some_last calls) (p ++ b) parts (pending_after p calls ++ drop (read_in_all calls) b)
  pub pending : IsPendingUtf16 order (pending_after p calls)
  pub at_most_three : length (pending_after p calls) ≤ 3
  pub bytes : flat_map (bytes_of_utf16 order) parts ++ pending_after p calls ≡ p ++ take (read_in_all calls) b
  pub all : Any (λ call. (call.last ≡ true) × (call.result ≡ InputEmpty)) calls → ArePartsOfUtf16 order (p ++ b) parts
