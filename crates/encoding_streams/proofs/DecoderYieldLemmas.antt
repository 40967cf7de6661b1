-- The parts that calls yield in any of the encodings, and their text with U+FFFD for each malformed sequence.
use Rattle.std.proofs.Common.{◌≡◌, ℕ, ◌+◌, ◌≤◌, Bool, true, false, List, [], ◌∷◌, ◌++◌, length, drop, map, refl, sym, ap, subst, ◌∙◌, arith, append-nil}
use Rattle.std.proofs.Common.{append_assoc, length-append}
use Rattle.std.specs.List.{flat_map}
use Rattle.std.proofs.lemmas.Grind.{flat_map-append}
use Rattle.encoding_definitions.specs.Parts.{Part, Character, IllFormed, lossy_scalar, malformed_count}
use Rattle.encoding_definitions.proofs.DecompositionLemmas.{StartsWith-append, malformed_count-append, malformed_count-characters, malformed_count-bytes}
use Rattle.encoding_text.specs.Decoding.{AreDecoded, IsReported}
use Rattle.encoding_text.specs.declared.utf_16.ByteOrder.{ByteOrder}
use Rattle.encoding_text.specs.declared.utf_16.ByteOrder.TheVariants.{LittleEndian, BigEndian}
use Rattle.encoding_text.specs.declared.decoder.DecoderResult.{DecoderResult}
use Rattle.encoding_text.specs.declared.decoder.DecoderResult.TheVariants.{InputEmpty, OutputFull, Malformed}
use Rattle.encoding_streams.specs.declared.encoding.Encoding.{Encoding}
use Rattle.encoding_streams.specs.declared.encoding.Encoding.TheVariants.{Utf8, Utf16Le, Utf16Be}
use Rattle.encoding_streams.specs.Utf16Parts.{StartsWithUtf16, bytes_of_utf16}
use Rattle.encoding_streams.specs.Decoders.{StartsWithIn, YieldParts, YieldText, lossy_text}
use Rattle.encoding_streams.specs.DecoderSteps.{encoding_of}
use Rattle.encoding_streams.proofs.Utf16PartLemmas.{starts_append, starts_stay, part_bytes}

-- ---- parts in an encoding
pub starts_in-append : (e : Encoding) (bytes : List ℕ) (parts : List Part) (mid : List ℕ) (more : List Part) (rest : List ℕ)
    → StartsWithIn e bytes parts mid → StartsWithIn e mid more rest → StartsWithIn e bytes (parts ++ more) rest
starts_in-append Utf8 bytes parts mid more rest g h = StartsWith-append bytes parts mid more rest g h
starts_in-append Utf16Le bytes parts mid more rest g h = starts_append LittleEndian true bytes parts mid more rest g h
starts_in-append Utf16Be bytes parts mid more rest g h = starts_append BigEndian true bytes parts mid more rest g h

in_order : (order : ByteOrder) (bytes : List ℕ) (parts : List Part) (rest : List ℕ) → StartsWithUtf16 order true bytes parts rest
    → StartsWithIn (encoding_of order) bytes parts rest
in_order LittleEndian bytes parts rest s = s
in_order BigEndian bytes parts rest s = s

first_units : (order : ByteOrder) (p src : List ℕ) (last : Bool) (parts : List Part) (read : ℕ) (q more : List ℕ)
    → StartsWithUtf16 order last (p ++ src) parts (q ++ drop read src) → (last ≡ true → more ≡ [])
    → StartsWithUtf16 order true (p ++ (src ++ more)) parts (q ++ (drop read src ++ more))
first_units order p src false parts read q more first none =
    subst (λ bs. StartsWithUtf16 order true bs parts (q ++ (drop read src ++ more))) (append_assoc p src more)
    (subst (StartsWithUtf16 order true ((p ++ src) ++ more) parts) (append_assoc q (drop read src) more)
    (starts_stay order (p ++ src) parts (q ++ drop read src) more true first))
first_units order p src true parts read q more first none =
    rw (none refl, append-nil src, append-nil (drop read src)) first

pub first_parts_utf16 : (order : ByteOrder) (p src : List ℕ) (last : Bool) (parts : List Part) (read : ℕ) (q more : List ℕ)
    → StartsWithUtf16 order last (p ++ src) parts (q ++ drop read src) → (last ≡ true → more ≡ [])
    → StartsWithIn (encoding_of order) (p ++ (src ++ more)) parts (q ++ (drop read src ++ more))
first_parts_utf16 order p src last parts read q more first none = in_order order _ _ _ (first_units order p src last parts read q more first none)

-- a malformed sequence has at least one byte
count_units : (order : ByteOrder) (bytes : List ℕ) (parts : List Part) (rest : List ℕ) → StartsWithUtf16 order true bytes parts rest
    → malformed_count parts + length rest ≤ length bytes
count_units order bytes [] rest e = omega (arith, ap length e)
count_units order bytes (Character c ∷ parts) rest (after, f, s) =
    let taken = part_bytes order true bytes (Character c) after f in
    omega (arith, count_units order after parts rest s, ap length taken.0, length-append (bytes_of_utf16 order (Character c)) after, taken.1)
count_units order bytes (IllFormed x ∷ parts) rest (after, f, s) =
    let taken = part_bytes order true bytes (IllFormed x) after f in
    omega (arith, count_units order after parts rest s, ap length taken.0, length-append x after, taken.1)

pub count_in : (e : Encoding) (bytes : List ℕ) (parts : List Part) (rest : List ℕ) → StartsWithIn e bytes parts rest
    → malformed_count parts + length rest ≤ length bytes
count_in Utf8 bytes parts rest s = malformed_count-bytes bytes parts rest s
count_in Utf16Le bytes parts rest s = count_units LittleEndian bytes parts rest s
count_in Utf16Be bytes parts rest s = count_units BigEndian bytes parts rest s

pub YieldParts-append : (before mid after : Encoding × List ℕ) (parts more : List Part) → YieldParts before mid parts → YieldParts mid after more
    → YieldParts before after (parts ++ more)
YieldParts-append before mid after parts more g h = record {
  same = h.same ∙ g.same;
  first = starts_in-append before.0 before.1 parts mid.1 more after.1 g.first (subst (λ e. StartsWithIn e mid.1 more after.1) g.same h.first);
}

-- ---- their text
module _ {A : Type 0} (encode : ℕ → List A) where
  text-characters : (cs : List ℕ) → lossy_text encode (map Character cs) ≡ flat_map encode cs
  text-characters [] = refl
  text-characters (c ∷ cs) = ap (λ xs. encode c ++ xs) (text-characters cs)

  -- what is written for a malformed sequence that is reported
  abbrev pub written_for : DecoderResult → List A
  written_for InputEmpty = []
  written_for OutputFull = []
  written_for (Malformed k second) = encode 0xFFFD

  abbrev pub reports : DecoderResult → ℕ
  reports InputEmpty = 0
  reports OutputFull = 0
  reports (Malformed k second) = 1

  reported_text : (result : DecoderResult) (parts : List Part) → IsReported result parts
      → (lossy_text encode parts ≡ written_for result) × (malformed_count parts ≡ reports result)
  reported_text InputEmpty parts e = rw e (refl, refl)
  reported_text OutputFull parts e = rw e (refl, refl)
  reported_text (Malformed k second) parts (x, e, size) = rw e (append-nil (encode 0xFFFD), refl)

  -- the text of what a call yields is what it wrote, and U+FFFD for what it reported
  pub decoded_text : (result : DecoderResult) (out : List A) (parts : List Part) → AreDecoded encode result out parts
      → (out ++ written_for result ≡ lossy_text encode parts) × (reports result ≡ malformed_count parts)
  decoded_text result out parts (cs, reported, scalars, is_out, is, e) =
      let r = reported_text result reported is in (
        ap (λ xs. xs ++ written_for result) (is_out ∙ sym (text-characters cs)) ∙ ap (λ xs. lossy_text encode (map Character cs) ++ xs) (sym r.0)
            ∙ sym (flat_map-append (λ part. encode (lossy_scalar part)) (map Character cs) reported) ∙ ap (lossy_text encode) (sym e),
        omega (arith, r.1, malformed_count-characters cs, malformed_count-append (map Character cs) reported, ap malformed_count e),
      )

  pub YieldText-nil : (state : Encoding × List ℕ) → YieldText encode state state [] 0
  YieldText-nil state = record { parts = []; yields = record { same = refl; first = nothing state.0 state.1 }; text = refl; malformed = refl }
    where
      nothing : (e : Encoding) (bytes : List ℕ) → StartsWithIn e bytes [] bytes
      nothing Utf8 bytes = refl
      nothing Utf16Le bytes = refl
      nothing Utf16Be bytes = refl

  pub YieldText-append : (before mid after : Encoding × List ℕ) (out more : List A) (replaced again : ℕ) → YieldText encode before mid out replaced
      → YieldText encode mid after more again
      → YieldText encode before after (out ++ more) (replaced + again)
  YieldText-append before mid after out more replaced again g h = record {
    parts = g.parts ++ h.parts;
    yields = YieldParts-append before mid after g.parts h.parts g.yields h.yields;
    text = (λ i. g.text i ++ h.text i) ∙ sym (flat_map-append (λ part. encode (lossy_scalar part)) g.parts h.parts);
    malformed = (λ i. g.malformed i + h.malformed i) ∙ sym (malformed_count-append g.parts h.parts);
  }
