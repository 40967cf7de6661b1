use Rattle.std.proofs.Common.{◌↔◌, ◌≤◌, length, nat_eq, sym, subst, arith}
use Rattle.std.specs.Prelude.{IsTrue}
use Rattle.std.proofs.lemmas.Bool.Decides.{nat_tests}
use Rattle.std.proofs.lemmas.List.{take_all}
use Rattle.encoding_text.specs.Surrogates.{IsValidUtf16}
use Rattle.engine_example.proofs.units.is_text.Goals as goal

pub returns : goal.returns
returns c =
    let us = c.args.units.now in
    let at = c.utf16_valid_up_to.result in
    let longest = c.utf16_valid_up_to.ensures in
    let valid : IsTrue (nat_eq at (length us)) ↔ IsValidUtf16 us = (
      (λ t. let all : length us ≤ at = grind (arith, nat_tests) in subst IsValidUtf16 (take_all at us all) longest.kind),
      (λ v. let all : length us ≤ at = longest.longest (length us) (omega arith) (subst IsValidUtf16 (sym (take_all (length us) us (omega arith))) v) in
          let within : at ≤ length us = longest.within in
          grind (arith, nat_tests)),
    ) in
    let spelled = c.law_surrogate_repair.ensures.spelled us in
    let paired = c.law_surrogate_repair.ensures.paired us (λ k. omega (arith, c.type_inv.units k)) in
    record {
      text = ((λ t. spelled.0 (valid.0 t)), (λ s. valid.1 (spelled.1 s)));
      paired = ((λ t. paired.0 (valid.0 t)), (λ p. valid.1 (paired.1 p)));
    }
