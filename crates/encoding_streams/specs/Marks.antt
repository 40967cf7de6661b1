-- Byte order marks, and the bytes without them: Encoding Standard, "BOM sniff" and "decode".
use Rattle.std.specs.Prelude.{ℕ, Bool, false, ◌&&◌, ◌||◌, List, [], ◌∷◌, length, drop, nat_eq, nat_lt, if◌then◌else◌, Option, None, Some}
use Rattle.std.specs.List.{starts_with}
use Rattle.encoding_streams.specs.declared.encoding.Encoding.{Encoding}
use Rattle.encoding_streams.specs.declared.encoding.Encoding.TheVariants.{Utf8, Utf16Le, Utf16Be}
use Rattle.encoding_streams.specs.declared.encoding.BomHandling.{BomHandling}
use Rattle.encoding_streams.specs.declared.encoding.BomHandling.TheVariants.{Off, Remove, Sniff}

-- U+FEFF in the encoding
abbrev pub mark : Encoding → List ℕ
mark Utf8 = 0xEF ∷ 0xBB ∷ 0xBF ∷ []
mark Utf16Le = 0xFF ∷ 0xFE ∷ []
mark Utf16Be = 0xFE ∷ 0xFF ∷ []

-- the encoding whose mark the bytes start with, if that mark is looked for
abbrev pub found_mark : BomHandling → Encoding → List ℕ → Option Encoding
found_mark Off e bytes = None
found_mark Remove e bytes = if starts_with nat_eq bytes (mark e) then Some e else None
found_mark Sniff e bytes = if starts_with nat_eq bytes (mark Utf8) then Some Utf8
    else (if starts_with nat_eq bytes (mark Utf16Be) then Some Utf16Be
    else (if starts_with nat_eq bytes (mark Utf16Le) then Some Utf16Le else None))

-- the bytes are the start of the mark of the encoding, and not all of it
abbrev pub begins_mark_of : Encoding → List ℕ → Bool
begins_mark_of e bytes = nat_lt (length bytes) (length (mark e)) && starts_with nat_eq (mark e) bytes

-- they are the start of a mark that is looked for
abbrev pub begins_mark : BomHandling → Encoding → List ℕ → Bool
begins_mark Off e bytes = false
begins_mark Remove e bytes = begins_mark_of e bytes
begins_mark Sniff e bytes = begins_mark_of Utf8 bytes || (begins_mark_of Utf16Be bytes || begins_mark_of Utf16Le bytes)

-- the encoding to decode with, and the bytes after the mark
abbrev pub after_mark : Encoding → List ℕ → Option Encoding → Encoding × List ℕ
after_mark e bytes None = (e, bytes)
after_mark e bytes (Some m) = (m, drop (length (mark m)) bytes)

-- the same of bytes that may start with a mark that is looked for
abbrev pub without_mark : BomHandling → Encoding → List ℕ → Encoding × List ℕ
without_mark bom e bytes = after_mark e bytes (found_mark bom e bytes)
