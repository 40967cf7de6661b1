use Rattle.std.proofs.Common.{arith, length}
use Rattle.std.specs.Char.Escape.{encode_utf16}
use Rattle.std.proofs.lemmas.List.{drop_all, take_all}
use Rattle.encoding_definitions.proofs.PrefixesLemmas.{WritesPrefix_over}
use Rattle.encoding_text.proofs.ConvertingLemmas.{ascii_written, converted_again, converted_start, converts_all}
use Rattle.encoding_text.proofs.ConvertingLemmas.{converts_prefix, converts_valid, of_whole_prefix}
use Rattle.encoding_text.proofs.Latin1ConversionLemmas.{ascii_taken}
use Rattle.encoding_text.proofs.RepairingLemmas.{replaced_all, replaced_first}
use Rattle.encoding_text.proofs.WholePrefixesLemmas.{whole_text}
use Rattle.encoding_text.proofs.mem.to_utf16.convert_utf8_to_utf16.Goals as goal

pub returns-then-blocks-src : goal.returns-then-blocks-src
returns-then-blocks-src c =
    let blocks = c.unpack_blocks-blocks.ensures in
    let start = converted_start _ _ _ _ blocks.within (ascii_taken _ _ blocks.ascii) blocks.copied in
    let all = converts_prefix encode_utf16 _ _ _ _ _ (converts_all encode_utf16 _ _ _ _ _ (omega arith) start) in
    replaced_all _ _ _ _ _ (replaced_first _ _ _ _ _ all) (drop_all _ c.args.src.now (omega arith))

pub convert_with_replacement-requires-clause-start : goal.convert_with_replacement-requires-clause-start
convert_with_replacement-requires-clause-start c =
    let blocks = c.unpack_blocks-blocks.ensures in
    let start = converted_start _ _ _ _ blocks.within (ascii_taken _ _ blocks.ascii) blocks.copied in
    converted_again encode_utf16 _ _ _ _ _ start

pub returns-then-src-gt-SHORT : goal.returns-then-src-gt-SHORT
returns-then-src-gt-SHORT c =
    let blocks = c.unpack_blocks-blocks.ensures in
    let rest = c.convert_with_replacement.ensures in
    (rest.converted.0, rest.converted.1, WritesPrefix_over _ _ _ _ _ _ _ blocks.copied rest.converted.2 rest.after)

pub returns-then-write_short_ascii_as_units : goal.returns-then-write_short_ascii_as_units
returns-then-write_short_ascii_as_units c =
    let src = c.args.src.now in
    let ascii = c.write_short_ascii_as_units.ensures.0.0 c.if-write_short_ascii_as_units.true in
    let units = ascii_written _ _ _ ascii (c.write_short_ascii_as_units.ensures.1 c.if-write_short_ascii_as_units.true) in
    let all = converts_valid encode_utf16 _ _ _ _ _ (whole_text src ascii) (of_whole_prefix _ _ _ _ _ (take_all (length src) src (omega arith)) units) in
    replaced_all _ _ _ _ _ (replaced_first _ _ _ _ _ (converts_prefix encode_utf16 _ _ _ _ _ all)) (drop_all _ src (omega arith))
