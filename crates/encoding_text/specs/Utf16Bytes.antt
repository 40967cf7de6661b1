-- UTF-16BE and UTF-16LE: Unicode Standard, section 3.10, D96 and D97.
use Rattle.std.specs.Prelude.{ℕ, List}
use Rattle.std.specs.Int.{w16, to_le_bytes, to_be_bytes}
use Rattle.std.specs.Char.Escape.{encode_utf16}
use Rattle.std.specs.List.{flat_map}
use Rattle.encoding_text.specs.declared.utf_16.ByteOrder.{ByteOrder}
use Rattle.encoding_text.specs.declared.utf_16.ByteOrder.TheVariants.{LittleEndian, BigEndian}

-- the two bytes of a code unit
abbrev pub unit_bytes : ByteOrder → ℕ → List ℕ
unit_bytes LittleEndian unit = to_le_bytes w16 unit
unit_bytes BigEndian unit = to_be_bytes w16 unit

-- the bytes of code units
abbrev pub utf16_bytes : ByteOrder → List ℕ → List ℕ
utf16_bytes order units = flat_map (unit_bytes order) units

-- the bytes of characters
abbrev pub bytes_of_scalars : ByteOrder → List ℕ → List ℕ
bytes_of_scalars order cs = utf16_bytes order (flat_map encode_utf16 cs)
