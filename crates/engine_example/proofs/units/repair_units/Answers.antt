use Rattle.std.proofs.Common.{subst, sym, ap, ◌∙◌, arith}
use Rattle.std.specs.Char.Escape.{encode_utf16}
use Rattle.std.specs.List.{flat_map}
use Rattle.encoding_text.specs.Surrogates.{AreRepairedUnits}
use Rattle.encoding_text.proofs.SurrogateLemmas.{scalars_of_valid}
use Rattle.engine_example.proofs.RoundTripLemmas.{lossy_is}
use Rattle.engine_example.proofs.units.repair_units.Goals as goal

pub returns : goal.returns
returns c =
    let old = c.args.units.now in
    let new = c.ensure_utf16_validity.new.buffer in
    let done = c.ensure_utf16_validity.ensures in
    let valid = c.law_surrogate_repair.ensures.valid old new done in
    let (again, are) = c.law_surrogate_repair.ensures.exist new (λ k. omega (arith, c.type_inv.units k)) in
    record {
      repaired = done;
      text = sym (scalars_of_valid new valid).1 ∙ ap (flat_map encode_utf16) (lossy_is c.law_surrogate_repair.ensures.lossy old new done valid);
      valid = valid;
      places = c.law_surrogate_repair.ensures.places old new done;
      stays = λ v. c.law_surrogate_repair.ensures.stays old new v done;
      twice = subst (AreRepairedUnits new) (c.law_surrogate_repair.ensures.twice old new again done are) are;
    }
