-- A scalar value, its UTF-8 and its UTF-16 agree on whether it is right-to-left.
use Rattle.std.proofs.Common.{ℕ, inl, inr, List, encode_utf8_all, refl, subst}
use Rattle.std.specs.Prelude.{Any, IsTrue, map, ◌↔◌}
use Rattle.std.specs.Char.Escape.{encode_utf16}
use Rattle.std.specs.List.{flat_map}
use Rattle.std.specs.Str.{all_scalars}
use Rattle.encoding_definitions.specs.Bidi.{IsRightToLeft, IsRightToLeftPart, IsBidiBytes, IsBidiUnits}
use Rattle.encoding_definitions.specs.Utf16.{Character16}
use Rattle.encoding_definitions.proofs.BidiTextLemmas.{bidi_scalars}
use Rattle.encoding_definitions.proofs.BidiUnitsLemmas.{characters_bidi, bidi_characters}
use Rattle.encoding_definitions.proofs.Utf16LawLemmas.{parts-encode}
use Rattle.encoding_definitions.proofs.Utf16Lemmas.{parts_unique}

pub in_utf8 : (cs : List ℕ) → IsTrue (all_scalars cs) → Any IsRightToLeft cs ↔ IsBidiBytes (encode_utf8_all cs)
in_utf8 cs s = (λ a. inr (cs, s, refl, a), back)
  where
    back : IsBidiBytes (encode_utf8_all cs) → Any IsRightToLeft cs
    back (inl ill) = absurd (ill (cs, (s, refl)))
    back (inr b) = bidi_scalars (encode_utf8_all cs) cs refl b

pub in_utf16 : (cs : List ℕ) → IsTrue (all_scalars cs) → Any IsRightToLeft cs ↔ IsBidiUnits (flat_map encode_utf16 cs)
in_utf16 cs s = (
  λ a. (map Character16 cs, parts-encode cs s, characters_bidi cs a),
  λ b. bidi_characters cs
      (subst (λ ps. Any IsRightToLeftPart ps) (parts_unique (flat_map encode_utf16 cs) b.0 (map Character16 cs) b.1 (parts-encode cs s)) b.2),
)
