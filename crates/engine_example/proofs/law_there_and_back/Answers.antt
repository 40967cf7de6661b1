use Rattle.std.proofs.Common.{subst, ◌∙◌}
use Rattle.encoding_text.specs.Utf16.{ArePartsOf16}
use Rattle.engine_example.proofs.RoundTripLemmas.{text_repaired, utf8_to_utf16}
use Rattle.engine_example.proofs.law_there_and_back.Goals as goal

pub returns-clause-repaired : goal.returns-clause-repaired
returns-clause-repaired c = λ bs units out (parts, are, e) written.
    (parts, are, text_repaired c.law_utf16_round_trip.ensures.scalars bs units out parts are e written)

pub returns-clause-stays : goal.returns-clause-stays
returns-clause-stays c = λ bs units out u (parts, are, e) written.
    let is = utf8_to_utf16 c.law_parts.ensures.one bs units parts u are e in
    written.written ∙ c.law_utf16_round_trip.ensures.text bs written.parts u (subst (λ xs. ArePartsOf16 xs written.parts) is written.are_parts)
