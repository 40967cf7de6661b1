use Rattle.std.proofs.Common.{length, take, sym, ap, subst, ◌∙◌, arith}
use Rattle.std.proofs.lemmas.Str.{IsUtf8-nil}
use Rattle.std.specs.Str.{IsUtf8}
use Rattle.std.specs.Io.KnownBytes.{Consumes}
use Rattle.encoding_definitions.specs.Sequence.{IsSequence}
use Rattle.encoding_definitions.proofs.Utf8Lemmas.{IsUtf8-sequence}
use Rattle.encoding_runs.specs.Reading.{IsUtf16Character}
use Rattle.encoding_runs.proofs.ReaderBlockLemmas.{some_length, written_prefix}
use Rattle.encoding_runs.proofs.ReaderPieceLemmas.{character_text}
use Rattle.encoding_runs.proofs.ReaderTextLemmas.{Keeps-units, no_units_left, no_units, some_text, one_character}
use Rattle.encoding_runs.proofs.reader.utf16_reader.Utf16Reader.hold.Goals as goal

pub from_utf8_unchecked-character-requires : goal.from_utf8_unchecked-character-requires
from_utf8_unchecked-character-requires g c =
    let read = c.in_ok-count.ensures in
    let character = take c.in_ok-count.count c.character.new.dst in
    character_text IsUtf8 IsSequence IsUtf8-nil IsUtf8-sequence character (λ some. read.one (omega (arith, some_length character some, read.bound)))

pub returns-clause-units : goal.returns-clause-units
returns-clause-units g c =
    let text = c.from_utf8_unchecked-character in
    let held = c.hold.ensures ∙ written_prefix _ _ _ _ c.convert_str_to_utf16-count.ensures in
    rw (c.requires.held, held) (Keeps-units _ _ text.result.now text.utf8 (subst (Consumes _ _) (sym text.ensures) c.in_ok-count.ensures.bytes.0))

pub returns-clause-one : goal.returns-clause-one
returns-clause-one g c = λ some.
    let text = c.from_utf8_unchecked-character in
    let held = c.hold.ensures ∙ written_prefix _ _ _ _ c.convert_str_to_utf16-count.ensures in
    let read = c.in_ok-count.ensures in
    let bytes = some_text text.result.now (λ none. some (held ∙ none)) in
    subst IsUtf16Character (sym held)
    (one_character c.law_sequences.ensures.spelled text.result.now
    (subst IsSequence (sym text.ensures) (read.one (omega (arith, some_length text.result.now bytes, ap length text.ensures, read.bound)))))

pub returns-clause-end : goal.returns-clause-end
returns-clause-end g c = λ none.
    let text = c.from_utf8_unchecked-character in
    let held = c.hold.ensures ∙ written_prefix _ _ _ _ c.convert_str_to_utf16-count.ensures in
    let read = c.in_ok-count.ensures in
    let nothing = no_units text.result.now text.utf8 (sym held ∙ none) in
    rw none (no_units_left _ (read.bytes.1 (omega (arith, ap length nothing, ap length text.ensures, read.bound)) (omega arith)))
