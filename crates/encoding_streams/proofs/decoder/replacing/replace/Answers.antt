use Rattle.encoding_streams.proofs.ReplacingCallLemmas.{call_of_step, suffices_of_step, first_step, call_after, suffices_after}
use Rattle.encoding_streams.proofs.ExactReplacingLemmas.{exact_end, step_then}
use Rattle.encoding_streams.proofs.decoder.replacing.replace.Goals as goal

pub returns-in-Some-clause-call : goal.returns-in-Some-clause-call
returns-in-Some-clause-call g c =
    call_of_step g.U.CodeUnit.encode g.U.CodeUnit.need g.U.Output.replacing _ _ _ _ _ _ _ _ _ c.replace_one-result.ensures.step _ c.in-Some.is

pub returns-in-Some-clause-suffices : goal.returns-in-Some-clause-suffices
returns-in-Some-clause-suffices g c =
    suffices_of_step g.U.CodeUnit.encode g.U.CodeUnit.need g.U.Output.replacing _ _ _ _ _ _ _ _ _ c.replace_one-result.ensures.step _ c.in-Some.is

pub returns-in-None-clause-call : goal.returns-in-None-clause-call
returns-in-None-clause-call g c =
    let rest = c.replace_all-result.ensures in
    call_after g.U.CodeUnit.encode g.U.CodeUnit.need g.U.Output.replacing _ _ _ _ _ _ _ _ _ _ _ _ _ _
    (first_step g.U.CodeUnit.encode g.U.CodeUnit.need g.U.Output.replacing _ _ _ _ _ _ _ _ _ c.replace_one-result.ensures.step c.in-None.is)
    rest.call.replaces (λ m l marked h. (rest.suffices m l marked h).1) _ rest.call.ends

pub returns-in-None-clause-suffices : goal.returns-in-None-clause-suffices
returns-in-None-clause-suffices g c =
    let rest = c.replace_all-result.ensures in
    suffices_after g.U.CodeUnit.encode g.U.CodeUnit.need g.U.Output.replacing _ _ _ _ _ _ _ _ _ _ _ _ _ _
    (first_step g.U.CodeUnit.encode g.U.CodeUnit.need g.U.Output.replacing _ _ _ _ _ _ _ _ _ c.replace_one-result.ensures.step c.in-None.is)
    rest.call.replaces (λ m l marked h. (rest.suffices m l marked h).1) _ rest.suffices

pub returns-in-Some-clause-exact : goal.returns-in-Some-clause-exact
returns-in-Some-clause-exact g c =
    exact_end g.U.CodeUnit.encode g.U.CodeUnit.need _ _ _ _ _ _ _ _ (rw c.in-Some.is at c.replace_one-result.ensures.exact)

pub returns-in-None-clause-exact : goal.returns-in-None-clause-exact
returns-in-None-clause-exact g c =
    let step = c.replace_one-result.ensures in
    let rest = c.replace_all-result.ensures in
    step_then g.U.CodeUnit.encode g.U.CodeUnit.need _ _ _ _ _ _ _ _ _ _ _ _ _ step.step.replaces.writes rest.call.replaces.writes _ _ _
    (rw c.in-None.is at step.exact) rest.exact
