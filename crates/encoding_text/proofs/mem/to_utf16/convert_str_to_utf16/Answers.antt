use Rattle.std.proofs.Common.{◌≡◌, ℕ, List, subst}
use Rattle.std.specs.List.{flat_map}
use Rattle.std.specs.Char.Escape.{encode_utf16}
use Rattle.std.specs.Str.{chars}
use Rattle.encoding_definitions.specs.Prefixes.{WritesPrefix}
use Rattle.encoding_text.proofs.ConvertingLemmas.{ascii_written}
use Rattle.encoding_text.proofs.mem.to_utf16.convert_str_to_utf16.Goals as goal

-- the bytes of the string are the text
written_same : (bytes src old new : List ℕ) (n : ℕ) → bytes ≡ src → WritesPrefix old new n (flat_map encode_utf16 (chars bytes))
    → WritesPrefix old new n (flat_map encode_utf16 (chars src))
written_same bytes src old new n e w = subst (λ xs. WritesPrefix old new n (flat_map encode_utf16 (chars xs))) e w

pub returns-then-write_short_ascii_as_units : goal.returns-then-write_short_ascii_as_units
returns-then-write_short_ascii_as_units c =
    let call = c.write_short_ascii_as_units.ensures in
    let is = c.if-write_short_ascii_as_units.true in
    let ascii = ascii_written _ _ _ (call.0.0 is) (call.1 is) in
    written_same _ _ _ _ _ c.as_bytes-bytes.ensures.value ascii
