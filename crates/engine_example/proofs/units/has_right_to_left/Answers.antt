use Rattle.std.proofs.Common.{◌↔◌, subst}
use Rattle.std.specs.Prelude.{Any}
use Rattle.encoding_text.specs.Bidi.{IsRightToLeft, IsBidiUnits}
use Rattle.encoding_text.proofs.SurrogateLemmas.{scalars_of_valid}
use Rattle.engine_example.proofs.RoundTripLemmas.{lossy_is}
use Rattle.engine_example.proofs.units.has_right_to_left.Goals as goal

pub returns-clause-right_to_left : goal.returns-clause-right_to_left
returns-clause-right_to_left c =
    let old = c.args.units.now in
    let new = c.repair_units.new.units in
    let valid = c.repair_units.ensures.valid in
    let (scalars, units) = scalars_of_valid new valid in
    let lossy = lossy_is c.law_surrogate_repair.ensures.lossy old new c.repair_units.ensures.repaired valid in
    let agree = subst (λ cs. Any IsRightToLeft cs ↔ IsBidiUnits new) lossy
    (subst (λ us. Any IsRightToLeft valid.0 ↔ IsBidiUnits us) units (c.law_bidi_agrees.ensures.utf16 valid.0 scalars)) in
    (λ t. agree.1 (c.is_utf16_bidi.ensures.0 t), λ a. c.is_utf16_bidi.ensures.1 (agree.0 a))
