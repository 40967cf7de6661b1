-- A destination of exactly the length of the output is large enough for all characters.
use Rattle.std.proofs.Common.{◌≡◌, inl, inr, ℕ, ◌+◌, ◌-◌, ◌^◌, ◌≤◌, List, ◌∷◌, [], length, take, ap, ◌∙◌, sym, arith, subst, refl}
use Rattle.std.specs.Prelude.{Option, Some, None, IfSome, SomeIff, encode_utf8, encode_utf8_all}
use Rattle.std.specs.List.{flat_map}
use Rattle.std.proofs.lemmas.Bool.{cases_lt}
use Rattle.std.proofs.lemmas.List.{length-append, take_all}
use Rattle.encoding_definitions.specs.Parts.{Part, bytes_of, ArePartsOf, lossy_scalar, lossy_utf8, malformed_count}
use Rattle.encoding_definitions.specs.Prefixes.{IsLongestFittingPrefix, WritesPrefix}
use Rattle.encoding_definitions.specs.Utf16.{units_of_part16, utf8_of_part16, IsUtf8OfLongestPrefix, IsUtf8OfUnits}
use Rattle.encoding_definitions.proofs.PrefixesLemmas.{length-prefix, WritesPrefix-same}
use Rattle.encoding_definitions.proofs.EncodingLemmas.{flat_map-encode_utf8}
use Rattle.encoding_definitions.proofs.DecompositionLemmas.{same_parts, parts-bytes}
use Rattle.encoding_definitions.proofs.Utf16Lemmas.{parts_unique}
use Rattle.encoding_text.specs.Replacing.{ConvertsParts, SufficesForParts}

module _ {C A : Type 0} (source : C → List ℕ) (output : C → List A) where
  -- the longest prefix that fits is all
  whole : (characters : List C) (room read : ℕ) (out : List A) (f : IsLongestFittingPrefix source output characters room read out)
      → length (flat_map output characters) ≤ room → take f.count characters ≡ characters
  whole characters room read out f h = elim (cases_lt f.count (length characters)) [
    | inl l ↦ absurd (omega (arith, f.longest l, h, length-prefix output characters (f.count + 1)))
    | inr l ↦ take_all f.count characters l
  ]

  all_read : (characters : List C) (room read : ℕ) (out : List A) (f : IsLongestFittingPrefix source output characters room read out)
      → length (flat_map output characters) ≤ room → read ≡ length (flat_map source characters)
  all_read characters room read out f h = f.taken ∙ ap (λ cs. length (flat_map source cs)) (whole characters room read out f h)

  all_written : (characters : List C) (room read : ℕ) (out : List A) (f : IsLongestFittingPrefix source output characters room read out)
      → length (flat_map output characters) ≤ room → out ≡ flat_map output characters
  all_written characters room read out f h = f.written ∙ ap (flat_map output) (whole characters room read out f h)

-- ---- of bytes
module _ {A : Type 0} (encode : ℕ → List A) (src : List ℕ) (old new : List A) (read written replaced : ℕ)
    (d : ConvertsParts encode src old new read written replaced) (parts : List Part) (are : ArePartsOf src parts)
    (h : length (flat_map (λ part. encode (lossy_scalar part)) parts) ≤ length old) where
  same : parts ≡ d.parts
  same = same_parts src parts d.parts are d.are_parts

  longest : IsLongestFittingPrefix bytes_of (λ part. encode (lossy_scalar part)) parts (length old) read d.out
  longest = subst (λ ps. IsLongestFittingPrefix bytes_of (λ part. encode (lossy_scalar part)) ps (length old) read d.out) (sym same) d.longest

  fits : length (flat_map (λ part. encode (lossy_scalar part)) d.parts) ≤ length old
  fits = subst (λ ps. length (flat_map (λ part. encode (lossy_scalar part)) ps) ≤ length old) same h

  parts_read : read ≡ length src
  parts_read = all_read bytes_of (λ part. encode (lossy_scalar part)) parts (length old) read d.out longest h ∙ ap length (parts-bytes src parts are)

  parts_written : WritesPrefix old new written (flat_map (λ part. encode (lossy_scalar part)) parts)
  parts_written = WritesPrefix-same old new written written d.out (flat_map (λ part. encode (lossy_scalar part)) parts) d.writes refl
      (all_written bytes_of (λ part. encode (lossy_scalar part)) parts (length old) read d.out longest h)

  parts_counted : replaced ≡ malformed_count parts
  parts_counted =
      d.counts ∙ ap malformed_count (whole bytes_of (λ part. encode (lossy_scalar part)) d.parts (length old) read d.out d.longest fits ∙ sym same)

pub parts_suffice : {A : Type 0} (encode : ℕ → List A) (src : List ℕ) (parts : List Part) (size : ℕ) → ArePartsOf src parts
    → size ≡ length (flat_map (λ part. encode (lossy_scalar part)) parts) → SufficesForParts encode src size
parts_suffice encode src parts size are e old new read written replaced h d =
    let fit : length (flat_map (λ part. encode (lossy_scalar part)) parts) ≤ length old = omega (arith, h, e) in
    record {
      all = parts_read encode src old new read written replaced d parts are fit;
      parts = parts;
      are_parts = are;
      writes = parts_written encode src old new read written replaced d parts are fit;
      counts = parts_counted encode src old new read written replaced d parts are fit;
    }

pub repaired_suffices : (src : List ℕ) (parts : List Part) (r : Option ℕ) → ArePartsOf src parts
    → SomeIff r (length (lossy_utf8 parts) ≤ 2 ^ 64 - 1) (length (lossy_utf8 parts)) → IfSome r (λ n. SufficesForParts encode_utf8 src n)
repaired_suffices src parts None are h = tt
repaired_suffices src parts (Some n) are h = parts_suffice encode_utf8 src parts n are h.1

-- ---- of code units
pub units_suffice : (src text : List ℕ) (size room read : ℕ) (out : List ℕ) → IsUtf8OfUnits src text → size ≡ length text → size ≤ room
    → IsUtf8OfLongestPrefix src room read out → (read ≡ length src) × IsUtf8OfUnits src out
units_suffice src text size room read out u e h d =
    let same : flat_map utf8_of_part16 d.parts ≡ text = ap (flat_map utf8_of_part16) (parts_unique src d.parts u.parts d.are_parts u.are_parts)
    ∙ sym u.written in
    let fits : length (flat_map utf8_of_part16 d.parts) ≤ room = omega (arith, h, e, ap length same) in (
      all_read units_of_part16 utf8_of_part16 d.parts room read out d.longest fits ∙ ap length d.are_parts.1,
      record {
        parts = d.parts;
        are_parts = d.are_parts;
        written = all_written units_of_part16 utf8_of_part16 d.parts room read out d.longest fits;
      },
    )

-- ---- of Latin1
bytes_length : (bs : List ℕ) → length (flat_map (λ b. b ∷ []) bs) ≡ length bs
bytes_length [] = refl
bytes_length (b ∷ bs) = omega (arith, bytes_length bs, length-append (b ∷ []) (flat_map (λ c. c ∷ []) bs))

pub latin1_suffices : (src : List ℕ) (size room read : ℕ) (out : List ℕ) → size ≡ length (encode_utf8_all src) → size ≤ room
    → IsLongestFittingPrefix (λ b. b ∷ []) encode_utf8 src room read out → (read ≡ length src) × (out ≡ encode_utf8_all src)
latin1_suffices src size room read out e h d =
    let text = flat_map-encode_utf8 src in
    let fits : length (flat_map encode_utf8 src) ≤ room = omega (arith, h, e, ap length text) in (
      all_read (λ b. b ∷ []) encode_utf8 src room read out d fits ∙ bytes_length src,
      all_written (λ b. b ∷ []) encode_utf8 src room read out d fits ∙ text,
    )
