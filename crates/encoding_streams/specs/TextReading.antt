-- What a reader of text has left of its stream, and the text that it returns.
use Rattle.std.specs.Prelude.{ℕ, List, [], encode_utf8, Option, option_map}
use Rattle.encoding_streams.specs.declared.encoding.Encoding.{Encoding}
use Rattle.encoding_streams.specs.declared.reader.TextReader.{TextReader}
use Rattle.encoding_streams.specs.Decoders.{YieldText, left}

-- what is left to be decoded, and in which encoding, if the bytes that its reader has left are known
abbrev pub stream_left : {R : Type 0} → (R → Option (List ℕ)) → TextReader R → Option (Encoding × List ℕ)
stream_left remaining r = option_map (left r.decoder) (remaining r.inner)

abbrev pub encoding_of : {R : Type 0} → TextReader R → Encoding
encoding_of r = r.decoder.encoding

-- the text of all parts, with U+FFFD for each malformed sequence
abbrev pub IsTextOf : Encoding × List ℕ → List ℕ → Type 0
IsTextOf before text = (replaced : ℕ) × YieldText encode_utf8 before (before.0, []) text replaced
