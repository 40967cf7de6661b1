-- What a decoder writes to UTF-8 is well-formed, so that a text stays one.
use Rattle.std.proofs.Common.{ℕ, Bool, true, List, [], ◌∷◌, encode_utf8, refl, sym, ◌∙◌, subst, arith, IsUtf8}
use Rattle.std.proofs.lemmas.Str.{IsUtf8-nil, IsUtf8-append, IsUtf8-encode}
use Rattle.encoding_definitions.proofs.EncodingLemmas.{flat_map-encode_utf8, high_scalar}
use Rattle.encoding_text.specs.Parts.{Part, Character, IllFormed, StartsWith}
use Rattle.encoding_text.specs.Decoding.{AreDecoded}
use Rattle.encoding_text.specs.declared.utf_16.ByteOrder.{ByteOrder}
use Rattle.encoding_text.specs.declared.utf_16.ByteOrder.TheVariants.{LittleEndian, BigEndian}
use Rattle.encoding_text.specs.declared.decoder.DecoderResult.{DecoderResult}
use Rattle.encoding_streams.specs.declared.encoding.Encoding.{Encoding}
use Rattle.encoding_streams.specs.declared.encoding.Encoding.TheVariants.{Utf8, Utf16Le, Utf16Be}
use Rattle.encoding_streams.specs.Utf16Parts.{StartsWithUtf16}
use Rattle.encoding_streams.specs.Decoders.{DecoderState, Replaces, StartsWithIn, lossy_text}

-- U+FFFD
replacement : IsUtf8 (encode_utf8 0xFFFD)
replacement = IsUtf8-encode 0xFFFD (high_scalar 0xFFFD (omega arith) (omega arith))

-- ---- the text of parts
text_utf8 : (bytes : List ℕ) (parts : List Part) (rest : List ℕ) → StartsWith bytes parts rest → IsUtf8 (lossy_text encode_utf8 parts)
text_utf8 bytes [] rest s = IsUtf8-nil
text_utf8 bytes (Character c ∷ parts) rest (after, f, s) = IsUtf8-append _ _ (IsUtf8-encode c f.0) (text_utf8 after parts rest s)
text_utf8 bytes (IllFormed x ∷ parts) rest (after, f, s) = IsUtf8-append _ _ replacement (text_utf8 after parts rest s)

text_utf16 : (order : ByteOrder) (bytes : List ℕ) (parts : List Part) (rest : List ℕ) → StartsWithUtf16 order true bytes parts rest
    → IsUtf8 (lossy_text encode_utf8 parts)
text_utf16 order bytes [] rest s = IsUtf8-nil
text_utf16 order bytes (Character c ∷ parts) rest (after, f, s) = IsUtf8-append _ _ (IsUtf8-encode c f.0) (text_utf16 order after parts rest s)
text_utf16 order bytes (IllFormed x ∷ parts) rest (after, f, s) = IsUtf8-append _ _ replacement (text_utf16 order after parts rest s)

text_in : (e : Encoding) (bytes : List ℕ) (parts : List Part) (rest : List ℕ) → StartsWithIn e bytes parts rest
    → IsUtf8 (lossy_text encode_utf8 parts)
text_in Utf8 bytes parts rest s = text_utf8 bytes parts rest s
text_in Utf16Le bytes parts rest s = text_utf16 LittleEndian bytes parts rest s
text_in Utf16Be bytes parts rest s = text_utf16 BigEndian bytes parts rest s

-- ---- the output of a call
pub replaced_text : (old : DecoderState) (src dst dst' : List ℕ) (last : Bool) (read written replaced : ℕ) (new : DecoderState)
    → (made : Replaces encode_utf8 old src dst dst' last read written replaced new) → IsUtf8 made.out
replaced_text old src dst dst' last read written replaced new made =
    let yielded = made.yields [] (λ _. refl) in
    subst IsUtf8 (sym yielded.text) (text_in _ _ yielded.parts _ yielded.yields.first)

pub decoded_text : (result : DecoderResult) (out : List ℕ) (parts : List Part) → AreDecoded encode_utf8 result out parts → IsUtf8 out
decoded_text result out parts (cs, reported, scalars, is_out, is, e) = (cs, (scalars, sym (is_out ∙ flat_map-encode_utf8 cs)))
