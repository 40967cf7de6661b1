use Rattle.std.proofs.Common.{◌≡◌, subst, sym, arith}
use Rattle.std.proofs.lemmas.Bool.Decides.{Decides-eqb}
use Rattle.std.proofs.lemmas.Grind.{common_steps}
use Rattle.std.proofs.lemmas.Slice.Eq.{slice_eq-Decides}
use Rattle.encoding_text.specs.Surrogates.{AreRepairedUnits}
use Rattle.engine_example.proofs.units.is_repaired.Goals as goal

pub returns : goal.returns
returns c =
    let old : c.deref_mut.result.now ≡ c.args.units.now = grind (arith, common_steps) in
    let new : c.as_slice.result.now ≡ c.ensure_utf16_validity.new.buffer = grind (arith, common_steps) in
    let same = slice_eq-Decides Decides-eqb _ _ _ c.eq.ensures in
    let done =
    subst (λ us. AreRepairedUnits us c.as_slice.result.now) old
    (subst (AreRepairedUnits c.deref_mut.result.now) (sym new) c.ensure_utf16_validity.ensures) in
    (λ t. subst (AreRepairedUnits c.args.units.now) (same.0 t) done, λ are. same.1 (c.law_surrogate_repair.ensures.one _ _ _ done are))
