use Rattle.std.proofs.Common.{length, ap, arith}
use Rattle.std.proofs.lemmas.List.{take_rest, length-drop}
use Rattle.encoding_streams.proofs.ReplacingCallLemmas.{no_steps, steps_both, call_both, suffices_both, shrinks}
use Rattle.encoding_streams.proofs.ExactReplacingLemmas.{none_replaced, then_end, then_step}
use Rattle.encoding_streams.proofs.decoder.replacing.replace_all.Goals as goal

pub returns-in-Some-clause-call : goal.returns-in-Some-clause-call
returns-in-Some-clause-call g c =
    let step = c.replace_one-result in
    call_both g.U.CodeUnit.encode g.U.CodeUnit.need g.U.Output.replacing _ _ _ _ _ _ _ _ _ _ _ _ _ c.loop-result.invariant.steps _
    step.ensures.step _ c.in-Some.is

pub returns-in-Some-clause-suffices : goal.returns-in-Some-clause-suffices
returns-in-Some-clause-suffices g c =
    let step = c.replace_one-result in
    suffices_both g.U.CodeUnit.encode g.U.CodeUnit.need g.U.Output.replacing _ _ _ _ _ _ _ _ _ _ _ _ _ c.loop-result.invariant.steps _ step.ensures.step _
    c.in-Some.is

pub loop-result-smaller : goal.loop-result-smaller
loop-result-smaller g c =
    let step = c.replace_one-result in
    let l = c.loop-result in
    let fewer =
    shrinks g.U.CodeUnit.encode g.U.CodeUnit.need g.U.Output.replacing _ _ _ _ _ _ _ _ _ _ _ _ _ l.invariant.steps _ step.ensures.step c.in-None.is in
    omega (arith, fewer, ap length (take_rest c.args.src.now l.read), length-drop l.read c.args.src.now)

pub loop-result-preserved : goal.loop-result-preserved
loop-result-preserved g c =
    let step = c.replace_one-result in
    record {
      steps = steps_both g.U.CodeUnit.encode g.U.CodeUnit.need g.U.Output.replacing _ _ _ _ _ _ _ _ _ _ _ _ _ c.loop-result.invariant.steps _ step.ensures.step
          c.in-None.is;
      exact = then_step g.U.CodeUnit.encode g.U.CodeUnit.need _ _ _ _ _ _ _ _ _ _ _ _ _ c.loop-result.invariant.steps.replaces.writes
          step.ensures.step.replaces.writes _ _ c.loop-result.invariant.exact (rw c.in-None.is at step.ensures.exact);
      pending = step.ensures.pending;
    }

pub loop-result-init : goal.loop-result-init
loop-result-init g c = record {
  steps = no_steps g.U.CodeUnit.encode g.U.Output.replacing _ _ _ _ (omega (arith, c.len-length.ensures.length, c.len-length.ensures.within));
  exact = none_replaced g.U.CodeUnit.encode g.U.CodeUnit.need _ _ _ _;
  pending = c.requires.pending;
}

pub returns-in-Some-clause-exact : goal.returns-in-Some-clause-exact
returns-in-Some-clause-exact g c =
    let step = c.replace_one-result in
    let l = c.loop-result in
    then_end g.U.CodeUnit.encode g.U.CodeUnit.need _ _ _ _ _ _ _ _ _ _ _ _ _ l.invariant.steps.replaces.writes step.ensures.step.replaces.writes _ _ _
    l.invariant.exact (rw c.in-Some.is at step.ensures.exact)
