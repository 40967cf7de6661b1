use Rattle.std.proofs.Common.{length, sym, ap, subst, arith}
use Rattle.std.proofs.lemmas.List.{nil_from_length}
use Rattle.std.specs.Io.KnownBytes.{Consumes}
use Rattle.encoding_definitions.specs.Surrogates.{IsValidUtf16}
use Rattle.encoding_runs.proofs.ReaderBlockLemmas.{written_prefix}
use Rattle.encoding_runs.proofs.ReaderTextLemmas.{uncut, Consumes-units, no_units_left, no_units, valid_units}
use Rattle.encoding_runs.proofs.reader.utf16_reader.Utf16Reader.decode.Goals as goal

pub invariant_of-self : goal.invariant_of-self
invariant_of-self g c = record { whole = uncut c.read.result _ _ _ _ c.requires.bytes c.args.self.now.whole c.read.ensures.characters c.read.ensures.err }

pub returns-clause-units : goal.returns-clause-units
returns-clause-units g c =
    let text = c.from_utf8_unchecked-text in
    let read = c.in_ok-count.ensures in
    let units = c.convert_str_to_utf16.ensures in
    rw c.requires.held (
      subst (Consumes _ _) (sym (written_prefix _ _ _ _ units))
          (Consumes-units _ _ text.result.now text.utf8 (subst (Consumes _ _) (sym text.ensures) read.bytes.0)),
      λ none room.
          let nothing = no_units text.result.now text.utf8 (nil_from_length _ (omega (arith, none, units.count))) in
          no_units_left _ (read.bytes.1 (omega (arith, ap length nothing, ap length text.ensures, read.bound))
          (omega (arith, c.requires.bytes, c.read.auto.dst))),
    )

pub returns-clause-whole : goal.returns-clause-whole
returns-clause-whole g c =
    let text = c.from_utf8_unchecked-text in
    subst IsValidUtf16 (sym (written_prefix _ _ _ _ c.convert_str_to_utf16.ensures))
    (valid_units c.law_utf16_round_trip.ensures.characters text.result.now text.utf8)
