-- To UTF-16 and back to UTF-8: what repaired code units are the UTF-16 of, and the UTF-8 that is written for them.
use Rattle.std.proofs.Common.{◌≡◌, ℕ, List, [], ◌∷◌, map, refl, sym, ap, ◌∙◌, encode_utf8, true, ◌++◌, subst, encode_utf8_all, IsUtf8, IsTrue, append-nil}
use Rattle.std.specs.List.{flat_map}
use Rattle.std.specs.Char.Utf16.{utf16_lossy_chars}
use Rattle.std.proofs.lemmas.List.Folds.{flat_map-map}
use Rattle.encoding_text.specs.Utf16.{Part16, Character16, ArePartsOf16, IsUtf8OfUnits, scalar_of_part16}
use Rattle.encoding_text.specs.Surrogates.{IsValidUtf16, AreRepairedUnits}
use Rattle.std.specs.Str.{all_scalars, chars}
use Rattle.std.specs.Char.Escape.{encode_utf16}
use Rattle.std.proofs.lemmas.Bool.{and_from}
use Rattle.std.proofs.lemmas.Str.{encodes-chars, scalars-chars}
use lib.Utf8.{scalar}
use Rattle.encoding_text.specs.Parts.{Part, Character, IllFormed, StartsWith, ArePartsOf, lossy_scalar, lossy_utf8, lossy_utf16}
use Rattle.encoding_text.proofs.DecompositionLemmas.{StartsWith-characters}
use Rattle.encoding_text.proofs.RepairingLemmas.{lossy-characters}

-- the characters that valid code units are the UTF-16 of
scalars_are : (cs : List ℕ) → map scalar_of_part16 (map Character16 cs) ≡ cs
scalars_are [] = refl
scalars_are (c ∷ cs) = ap (λ xs. c ∷ xs) (scalars_are cs)

pub lossy_is : ((old new : List ℕ) (parts : List Part16) → AreRepairedUnits old new → ArePartsOf16 new parts
    → map scalar_of_part16 parts ≡ utf16_lossy_chars old)
    → (old new : List ℕ) → AreRepairedUnits old new → (v : IsValidUtf16 new) → v.0 ≡ utf16_lossy_chars old
lossy_is law old new r v = sym (scalars_are v.0) ∙ law old new (map Character16 v.0) r v.1

-- if parts have the same scalar values, the same is written for them
pub written_same : (us vs out : List ℕ) (parts : List Part16) → ArePartsOf16 vs parts → (w : IsUtf8OfUnits us out)
    → map scalar_of_part16 w.parts ≡ map scalar_of_part16 parts → IsUtf8OfUnits vs out
written_same us vs out parts are w e = record {
  parts = parts;
  are_parts = are;
  written = w.written ∙ sym (flat_map-map encode_utf8 scalar_of_part16 w.parts) ∙ ap (flat_map encode_utf8) e ∙ flat_map-map encode_utf8 scalar_of_part16 parts;
}

repaired_scalars : (bs : List ℕ) (parts : List Part) (rest : List ℕ) → StartsWith bs parts rest → all_scalars (map lossy_scalar parts) ≡ true
repaired_scalars bs [] rest s = refl
repaired_scalars bs (Character c ∷ parts) rest (after, first, s) = and_from (scalar c) _ first.0 (repaired_scalars after parts rest s)
repaired_scalars bs (IllFormed x ∷ parts) rest (after, first, s) = and_from (scalar 0xFFFD) _ refl (repaired_scalars after parts rest s)

pub text_repaired : ((cs : List ℕ) (parts : List Part16) → IsTrue (all_scalars cs) → ArePartsOf16 (flat_map encode_utf16 cs) parts
    → map scalar_of_part16 parts ≡ cs)
    → (bs units out : List ℕ) (parts : List Part) → ArePartsOf bs parts → units ≡ lossy_utf16 parts → IsUtf8OfUnits units out → out ≡ lossy_utf8 parts
text_repaired law bs units out parts are e w =
    let cs = map lossy_scalar parts in
    let units_are : units ≡ flat_map encode_utf16 cs = e ∙ sym (flat_map-map encode_utf16 lossy_scalar parts) in
    let scalars : map scalar_of_part16 w.parts ≡ cs =
    law cs w.parts (repaired_scalars bs parts [] are) (subst (λ xs. ArePartsOf16 xs w.parts) units_are w.are_parts) in
    w.written ∙ sym (flat_map-map encode_utf8 scalar_of_part16 w.parts) ∙ ap (flat_map encode_utf8) scalars ∙ flat_map-map encode_utf8 lossy_scalar parts

-- well-formed bytes have their characters as parts
pub utf8_to_utf16 : ((bs : List ℕ) (parts others : List Part) → ArePartsOf bs parts → ArePartsOf bs others → parts ≡ others)
    → (bs units : List ℕ) (parts : List Part) → IsUtf8 bs → ArePartsOf bs parts → units ≡ lossy_utf16 parts → units ≡ flat_map encode_utf16 (chars bs)
utf8_to_utf16 one bs units parts u are e =
    let whole : encode_utf8_all (chars bs) ++ [] ≡ bs = append-nil (encode_utf8_all (chars bs)) ∙ encodes-chars bs u in
    let same : parts ≡ map Character (chars bs) = one bs parts (map Character (chars bs)) are
    (subst (λ xs. ArePartsOf xs (map Character (chars bs))) whole (StartsWith-characters (chars bs) [] (scalars-chars bs u))) in
    e ∙ ap lossy_utf16 same ∙ lossy-characters encode_utf16 (chars bs)
