use Rattle.std.proofs.Common.{arith, length, subst}
use Rattle.std.proofs.lemmas.List.{take_all}
use Rattle.std.specs.Char.Escape.{encode_utf16}
use Rattle.encoding_definitions.specs.Converting.{ConvertsMaximal}
use Rattle.encoding_text.proofs.ConvertingLemmas.{ascii_written, converts_valid, of_whole_prefix}
use Rattle.encoding_text.proofs.WholePrefixesLemmas.{whole_text}
use Rattle.encoding_text.proofs.utf_8.to_utf16.convert_utf8_to_utf16_up_to_invalid.Goals as goal

pub returns-then-write_short_ascii_as_units : goal.returns-then-write_short_ascii_as_units
returns-then-write_short_ascii_as_units c =
    let src = c.args.src.now in
    let ascii = c.write_short_ascii_as_units.ensures.0.0 c.if-write_short_ascii_as_units.true in
    let units = ascii_written _ _ _ ascii (c.write_short_ascii_as_units.ensures.1 c.if-write_short_ascii_as_units.true) in
    converts_valid encode_utf16 _ _ _ _ _ (whole_text src ascii) (of_whole_prefix _ _ _ _ _ (take_all (length src) src (omega arith)) units)

pub returns-then-src-dst : goal.returns-then-src-dst
returns-then-src-dst c =
    let rest = c.convert_short_beyond_ascii in
    subst (λ old. ConvertsMaximal encode_utf16 c.args.src.now old rest.new.dst rest.result.0 rest.result.1)
    (c.write_short_ascii_as_units.ensures.2 c.if-write_short_ascii_as_units.false) rest.ensures
