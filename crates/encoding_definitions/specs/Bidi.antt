-- Right-to-left scalar values, code units and texts: what may need the Unicode Bidirectional Algorithm.
use Rattle.std.specs.Prelude.{◌≡◌, ℕ, List, [], ◌∷◌, ◌⊎◌, Any, encode_utf8_all, true}
use Rattle.std.specs.Str.{all_scalars, IsUtf8}
use Rattle.std.specs.Char.Escape.{encode_utf16}
use Rattle.std.specs.Int.{IsInRange}
use Rattle.encoding_definitions.specs.Utf16.{Part16, Character16, Unpaired, IsHighSurrogate, ArePartsOf16}

-- the scalar values: right-to-left scripts with their marks and forms, and the controls for right-to-left text
abbrev pub IsRightToLeft : ℕ → Type 0
IsRightToLeft c = IsInRange 0x0590 0x08FF c ⊎ (c ≡ 0x200F) ⊎ (c ≡ 0x202B) ⊎ (c ≡ 0x202E) ⊎ (c ≡ 0x2067)
    ⊎ IsInRange 0xFB1D 0xFDFF c ⊎ IsInRange 0xFE70 0xFEFE c ⊎ IsInRange 0x1_0800 0x1_0FFF c ⊎ IsInRange 0x1_E800 0x1_EFFF c

-- a code unit: such a scalar value, or the first unit of one that takes two
abbrev pub IsRightToLeftUnit : ℕ → Type 0
IsRightToLeftUnit u = (c : ℕ) × (low : ℕ) × IsRightToLeft c × ((encode_utf16 c ≡ u ∷ []) ⊎ (encode_utf16 c ≡ u ∷ low ∷ []))

-- a part of code units: such a character, or an unpaired high surrogate that may be half of one
abbrev pub IsRightToLeftPart : Part16 → Type 0
IsRightToLeftPart (Character16 c) = IsRightToLeft c
IsRightToLeftPart (Unpaired u) = IsHighSurrogate u × IsRightToLeftUnit u

-- code units with such a part
abbrev pub IsBidiUnits : List ℕ → Type 0
IsBidiUnits us = (parts : List Part16) × ArePartsOf16 us parts × Any IsRightToLeftPart parts

-- a text with such a scalar value
abbrev pub IsBidiText : List ℕ → Type 0
IsBidiText bs = (cs : List ℕ) × (all_scalars cs ≡ true) × (encode_utf8_all cs ≡ bs) × Any IsRightToLeft cs

-- bytes that are not well-formed UTF-8, or a text with such a scalar value
abbrev pub IsBidiBytes : List ℕ → Type 0
IsBidiBytes bs = (¬ (IsUtf8 bs)) ⊎ IsBidiText bs
