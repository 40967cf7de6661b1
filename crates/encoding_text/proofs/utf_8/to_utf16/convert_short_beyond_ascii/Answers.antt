use Rattle.std.proofs.Common.{arith, length-take-le, subst, take}
use Rattle.std.specs.List.{flat_map}
use Rattle.std.specs.Str.{IsUtf8, chars}
use Rattle.std.proofs.lemmas.List.{take_all}
use Rattle.encoding_definitions.specs.Prefixes.{WritesPrefix}
use Rattle.std.specs.Char.Escape.{encode_utf16}
use Rattle.encoding_definitions.specs.Converting.{ConvertsMaximal}
use Rattle.encoding_text.proofs.ConvertingLemmas.{ascii_written, converts_valid, of_whole_prefix}
use Rattle.encoding_text.proofs.utf_8.to_utf16.convert_short_beyond_ascii.Goals as goal

pub convert_short-requires-clause-text : goal.convert_short-requires-clause-text
convert_short-requires-clause-text c =
    let src = c.args.src.now in
    let found = c.valid_up_to_by_vectors-valid in
    subst IsUtf8 (take_all found.result src (omega arith)) found.ensures.kind

pub returns-then-valid-src : goal.returns-then-valid-src
returns-then-valid-src c =
    let src = c.args.src.now in
    let found = c.valid_up_to_by_vectors-valid in
    let units = of_whole_prefix _ _ _ _ _ (take_all found.result src (omega arith)) c.convert_short.ensures in
    converts_valid encode_utf16 _ _ _ _ _ found.ensures units

pub convert_short-written-requires-clause-text : goal.convert_short-written-requires-clause-text
convert_short-written-requires-clause-text c = c.valid_up_to_by_vectors-valid.ensures.kind

pub returns-then-write_short_ascii_as_units : goal.returns-then-write_short_ascii_as_units
returns-then-write_short_ascii_as_units c =
    let src = c.args.src.now in
    let found = c.valid_up_to_by_vectors-valid in
    let ascii = c.write_short_ascii_as_units.ensures.0.0 c.if-write_short_ascii_as_units.true in
    let units = ascii_written _ _ _ ascii (c.write_short_ascii_as_units.ensures.1 c.if-write_short_ascii_as_units.true) in
    converts_valid encode_utf16 _ _ _ _ _ found.ensures
    (subst (λ n. WritesPrefix c.args.dst.now c.write_short_ascii_as_units.new.dst n (flat_map encode_utf16 (chars (take found.result src))))
    (length-take-le found.result src found.ensures.within) units)

pub returns-else-write_short_ascii_as_units : goal.returns-else-write_short_ascii_as_units
returns-else-write_short_ascii_as_units c =
    let found = c.valid_up_to_by_vectors-valid in
    let convert = c.convert_short-written in
    let same = c.write_short_ascii_as_units.ensures.2 c.if-write_short_ascii_as_units.false in
    subst (λ old. ConvertsMaximal encode_utf16 c.args.src.now old convert.new.dst found.result convert.result) same
    (converts_valid encode_utf16 _ _ _ _ _ found.ensures convert.ensures)
