use Rattle.std.proofs.Common.{arith}
use Rattle.std.proofs.lemmas.List.{take_rest, length-drop}
use Rattle.encoding_definitions.proofs.PrefixesLemmas.{WritesPrefix-length}
use Rattle.encoding_text.proofs.DecodeLemmas.{all_read, full, ends, no_character_fits}
use Rattle.encoding_text.proofs.decoder.decode_neutral.Goals as goal

pub returns-then-read-src : goal.returns-then-read-src
returns-then-read-src g c = rw c.requires.neutral
    (all_read g.U.CodeUnit.encode g.U.CodeUnit.MAX_UNITS _ _ _ _ _ _ c.convert_up_to_invalid-read.ensures c.if-read-src.true)

pub returns-then-dst-written : goal.returns-then-dst-written
returns-then-dst-written g c =
    let long = WritesPrefix-length _ _ _ _ c.convert_up_to_invalid-read.ensures.writes in
    rw c.requires.neutral (full g.U.CodeUnit.encode g.U.CodeUnit.MAX_UNITS _ _ _ _ _ _ c.convert_up_to_invalid-read.ensures c.if-read-src.false
    (omega (arith, c.if-dst-written.true, long)))

pub end_before-result-requires-clause-not_empty : goal.end_before-result-requires-clause-not_empty
end_before-result-requires-clause-not_empty g c =
    rw take_rest
    (omega (arith, length-drop c.convert_up_to_invalid-read.result.0 c.args.src.now, c.if-read-src.false, c.convert_up_to_invalid-read.ensures.within))

pub end_before-result-requires-clause-no_character : goal.end_before-result-requires-clause-no_character
end_before-result-requires-clause-no_character g c =
    let prefix = c.convert_up_to_invalid-read.ensures in
    let long = WritesPrefix-length _ _ _ _ prefix.writes in
    rw take_rest (no_character_fits g.U.CodeUnit.encode g.U.CodeUnit.MAX_UNITS g.met.U.FromUtf8.holds_any _ _ _ _ _ prefix
    (omega (arith, c.if-dst-written.false, long)))

pub returns : goal.returns
returns g c =
    let prefix = c.convert_up_to_invalid-read.ensures in
    let long = WritesPrefix-length _ _ _ _ prefix.writes in
    ends g.U.CodeUnit.encode g.U.CodeUnit.MAX_UNITS _ _ _ _ _ _ _ _ _ prefix (omega (arith, c.if-dst-written.false, long))
    (rw take_rest at c.end_before-result.ensures)
