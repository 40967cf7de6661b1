use Rattle.std.proofs.Common.{sym, ap, ◌∙◌}
use Rattle.encoding_runs.proofs.MalformationLemmas.{next_first}
use Rattle.encoding_c.specs.Status.{malformation_number}
use Rattle.encoding_c.proofs.malformed.encoding_text_next_malformation.Goals as goal

pub returns-in-Some-clause-kind : goal.returns-in-Some-clause-kind
returns-in-Some-clause-kind c = λ some kind is.
    let (only, holds, one) = c.law_malformations.ensures.one _ _ _ (next_first _ _ _ c.in-Some.ensures.if_some) in
    c.number.ensures ∙ ap malformation_number (one _ c.in-Some.ensures.kind ∙ sym (one kind is))
