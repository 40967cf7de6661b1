-- From scalar values to UTF-16 and back, and what std makes of units.
use Rattle.std.proofs.Common.{◌≡◌, ℕ, List, [], ◌∷◌, ◌++◌, encode_utf8_all, Option, Some, None, refl, ap, ◌∙◌}
use Rattle.std.specs.Prelude.{IsTrue, map, unwrap_or, nat_le, nat_lt, cond, Bool, true, false, ◌&&◌}
use Rattle.std.specs.Char.Escape.{encode_utf16}
use Rattle.std.specs.Char.Utf16.{utf16_chars, utf16_lossy_chars, surrogate_pair_char, is_high_surrogate, is_low_surrogate}
use Rattle.std.specs.List.{flat_map}
use Rattle.std.specs.Str.{all_scalars, chars, IsUtf8}
use Rattle.std.proofs.lemmas.Str.{encodes-chars, scalars-chars}
use Rattle.std.proofs.str.Laws.{both}
use Rattle.encoding_definitions.specs.Utf16.{Part16, Character16, Unpaired, units_of_part16, scalar_of_part16, utf8_of_part16, ArePaired, ArePartsOf16}
use Rattle.encoding_definitions.proofs.Utf16Lemmas.{parts_of, single, parts_are, parts_unique}

-- ---- scalar values and back
characters_paired : (cs : List ℕ) → IsTrue (all_scalars cs) → ArePaired (map Character16 cs)
characters_paired [] h = tt
characters_paired (c ∷ []) h = (both _ _ h).0
characters_paired (c ∷ d ∷ cs) h = let parts = both _ _ h in (parts.0, tt, characters_paired (d ∷ cs) parts.1)

pub characters_units : (cs : List ℕ) → flat_map units_of_part16 (map Character16 cs) ≡ flat_map encode_utf16 cs
characters_units [] = refl
characters_units (c ∷ cs) = ap (λ us. encode_utf16 c ++ us) (characters_units cs)

-- the parts of the UTF-16 of scalar values are these as characters
pub parts-encode : (cs : List ℕ) → IsTrue (all_scalars cs) → ArePartsOf16 (flat_map encode_utf16 cs) (map Character16 cs)
parts-encode cs h = (characters_paired cs h, characters_units cs)

scalars_back : (cs : List ℕ) → map scalar_of_part16 (map Character16 cs) ≡ cs
scalars_back [] = refl
scalars_back (c ∷ cs) = ap (λ xs. c ∷ xs) (scalars_back cs)

pub scalars-encode : (cs : List ℕ) (parts : List Part16) → IsTrue (all_scalars cs) → ArePartsOf16 (flat_map encode_utf16 cs) parts
    → map scalar_of_part16 parts ≡ cs
scalars-encode cs parts h a = ap (map scalar_of_part16) (parts_unique _ parts (map Character16 cs) a (parts-encode cs h)) ∙ scalars_back cs

pub utf8_of_all : (parts : List Part16) → flat_map utf8_of_part16 parts ≡ encode_utf8_all (map scalar_of_part16 parts)
utf8_of_all [] = refl
utf8_of_all (p ∷ parts) = ap (λ xs. utf8_of_part16 p ++ xs) (utf8_of_all parts)

pub text_back : (bs : List ℕ) (parts : List Part16) → IsUtf8 bs → ArePartsOf16 (flat_map encode_utf16 (chars bs)) parts → flat_map utf8_of_part16 parts ≡ bs
text_back bs parts u a = utf8_of_all parts ∙ ap encode_utf8_all (scalars-encode (chars bs) parts (scalars-chars bs u) a) ∙ encodes-chars bs u

-- ---- std's characters of units
-- the character, and none for an unpaired surrogate
abbrev pub character_of : Part16 → Option ℕ
character_of (Character16 c) = Some c
character_of (Unpaired u) = None

pick_single : (t : Bool) (u : ℕ) → character_of (cond t (Unpaired u) (Character16 u)) ≡ cond t None (Some u)
pick_single true u = refl
pick_single false u = refl

pick_more : (t : Bool) (p q : Part16) (ps qs : List Part16)
    → map character_of (cond t (p ∷ ps) (q ∷ qs)) ≡ cond t (character_of p ∷ map character_of ps) (character_of q ∷ map character_of qs)
pick_more true p q ps qs = refl
pick_more false p q ps qs = refl

-- std's characters are those of the parts
chars_of_parts : (us : List ℕ) → map character_of (parts_of us) ≡ utf16_chars us
unfolding parts_of utf16_chars
chars_of_parts [] = refl
chars_of_parts (u ∷ []) = ap (λ o. o ∷ []) (pick_single (nat_le 0xD800 u && nat_lt u 0xE000) u)
chars_of_parts (u ∷ v ∷ us) =
    let t = is_high_surrogate u && is_low_surrogate v in
    let c = surrogate_pair_char u v in
    pick_more t (Character16 c) (single u) (parts_of us) (parts_of (v ∷ us))
    ∙ (λ i. cond t (Some c ∷ chars_of_parts us i) (pick_single (nat_le 0xD800 u && nat_lt u 0xE000) u i ∷ chars_of_parts (v ∷ us) i))

pub characters_are : (us : List ℕ) (parts : List Part16) → ArePartsOf16 us parts → map character_of parts ≡ utf16_chars us
characters_are us parts a = ap (map character_of) (parts_are us parts a) ∙ chars_of_parts us

lossy_characters : (parts : List Part16) → map scalar_of_part16 parts ≡ map (λ o. unwrap_or o 0xFFFD) (map character_of parts)
lossy_characters [] = refl
lossy_characters (Character16 c ∷ parts) = ap (λ cs. c ∷ cs) (lossy_characters parts)
lossy_characters (Unpaired u ∷ parts) = ap (λ cs. 0xFFFD ∷ cs) (lossy_characters parts)

pub scalars_lossy : (us : List ℕ) (parts : List Part16) → ArePartsOf16 us parts → map scalar_of_part16 parts ≡ utf16_lossy_chars us
scalars_lossy us parts a = lossy_characters parts ∙ ap (map (λ o. unwrap_or o 0xFFFD)) (characters_are us parts a)
