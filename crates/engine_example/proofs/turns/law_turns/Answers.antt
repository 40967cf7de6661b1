use Rattle.std.proofs.Common.{[], sym, ap, ◌∙◌, arith}
use Rattle.std.specs.List.{flat_map}
use Rattle.encoding_text.specs.Utf16.{utf8_of_part16}
use Rattle.engine_example.proofs.turns.law_turns.Goals as goal

pub returns-clause-ends : goal.returns-clause-ends
returns-clause-ends c = λ units turns room calls e.
    c.law_encoder_cuts.ensures.completes [] units turns room calls tt e.chain e.of_turns e.many e.each (omega (arith, e.fits))

pub returns-clause-same : goal.returns-clause-same
returns-clause-same c = λ units turns others room more calls again a e f.
    let whole = c.law_encoder_cuts.ensures.whole [] units turns room calls tt a e.chain e.of_turns e.many e.each (omega (arith, e.fits)) in
    let other = c.law_encoder_cuts.ensures.whole [] units others more again tt a f.chain f.of_turns f.many f.each (omega (arith, f.fits)) in
    let same = c.law_utf16_round_trip.ensures.one units whole.parts other.parts whole.are_parts other.are_parts in
    whole.written ∙ ap (flat_map utf8_of_part16) same ∙ sym other.written
