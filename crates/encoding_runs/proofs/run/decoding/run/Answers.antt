use Rattle.std.proofs.Common.{◌∙◌, ℕ, ◌<◌, ◌+◌, ◌-◌, false, [], refl, length, take, drop, get_or, arith}
use Rattle.std.proofs.lemmas.List.{length-drop, length-take, take_more, take_all}
use Rattle.encoding_text.proofs.CallLemmas.{call_within}
use Rattle.encoding_definitions.proofs.PrefixesLemmas.{WritesPrefix-nil, WritesPrefix-length}
use Rattle.encoding_runs.specs.declared.run.turns.Turn.{Turn}
use Rattle.encoding_runs.proofs.RunLemmas.{delivers}
use Rattle.encoding_runs.proofs.TurnLemmas.{reported_push, one_report}
use Rattle.encoding_runs.proofs.CompletionLemmas.{completes}
use Rattle.encoding_runs.proofs.run.decoding.run.Goals as goal

pub loop-turn-init : goal.loop-turn-init
loop-turn-init g c = record {
  run = record {
    run = record { calls = []; chain = tt; of_turns = tt; reads = refl; writes = WritesPrefix-nil _; returns = refl; leaves = refl };
    reports = WritesPrefix-nil _;
  };
  read = omega arith;
  written = omega arith;
  reports = omega arith;
}

pub loop-turn-preserved : goal.loop-turn-preserved
loop-turn-preserved g c =
    let at = c.loop-turn.turn-index in
    let turns = c.args.turns.now in
    let unread = take (length c.args.src.now - c.loop-turn.outcome.read) (drop c.loop-turn.outcome.read c.args.src.now) in
    let none : Turn = record { take = 0; room = 0; last = false } in
    let turn = get_or turns at none in
    let call = c.make_call-answer.ensures.call in
    let before = c.loop-turn.invariant in
    let inside : at < length turns = omega arith in
    let run = reported_push g.U.CodeUnit.encode g.U.CodeUnit.MAX_UNITS _ _ _ _ _ _ _ _ _ turn _ _ _ _ _ _ _ _ before.run call.1 call.2 c.write_report.ensures in
    let within = call_within g.U.CodeUnit.encode g.U.CodeUnit.MAX_UNITS _ (take turn.take unread) _ _ _ _ _ _ call.2.answer in
    record {
      run = rw (take_more turns at none inside) run;
      read = omega (arith, within, before.read, length-take {A = ℕ}, length-drop {A = ℕ});
      written = omega (arith, run.run.writes.fits, WritesPrefix-length _ _ _ _ run.run.writes);
      reports = omega (
        arith,
        before.reports,
        c.write_report.ensures.count,
        one_report c.make_call-answer.result.0
            (c.loop-turn.outcome.written + c.make_call-answer.result.2),
      );
    }

pub returns-clause-delivers : goal.returns-clause-delivers
returns-clause-delivers g c =
    let all = take_all c.loop-turn.turn-index c.args.turns.now (omega arith) in
    delivers _ _ _ _ _ _ _ _ _ _ _ c.in_neutral_state-neutral.ensures.pending (rw all at c.loop-turn.invariant.run)

pub returns-clause-completes : goal.returns-clause-completes
returns-clause-completes g c =
    let all = take_all c.loop-turn.turn-index c.args.turns.now (omega arith) in
    let run = (rw all at c.loop-turn.invariant.run).run in
    λ l each m. run.returns ∙ completes _ _ c.requires.not_empty c.requires.short _ _ _ _ _ _ l each m run.chain run.of_turns
