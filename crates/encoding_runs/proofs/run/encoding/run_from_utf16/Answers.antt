use Rattle.std.proofs.Common.{◌<◌, ℕ, false, length, get_or, arith}
use Rattle.std.proofs.lemmas.List.{length-drop, length-take, take_more, take_all}
use Rattle.encoding_definitions.proofs.PrefixesLemmas.{WritesPrefix-length}
use Rattle.encoding_text.specs.Encoding.{EncodeStep}
use Rattle.encoding_runs.specs.declared.run.turns.Turn.{Turn}
use Rattle.encoding_runs.proofs.EncoderRunLemmas.{run_encodes, run_completes}
use Rattle.encoding_runs.proofs.TurnLemmas.{run_push}
use Rattle.encoding_runs.proofs.run.encoding.run_from_utf16.Goals as goal

pub loop-turn-preserved : goal.loop-turn-preserved
loop-turn-preserved c =
    let at = c.loop-turn.turn-index in
    let turns = c.args.turns.now in
    let none : Turn = record { take = 0; room = 0; last = false } in
    let before = c.loop-turn.invariant in
    let call = c.encode_turn-result.ensures in
    let inside : at < length turns = omega arith in
    let run = run_push EncodeStep _ _ _ _ _ _ _ _ _ (get_or turns at none) _ _ _ _ _ _ before.run call.unchanged_after call.call in
    record {
      run = rw (take_more turns at none inside) run;
      read = omega (arith, call.within, before.read, length-take {A = ℕ}, length-drop {A = ℕ});
      written = omega (arith, run.writes.fits, WritesPrefix-length _ _ _ _ run.writes);
    }

pub returns-clause-delivers : goal.returns-clause-delivers
returns-clause-delivers c =
    let all = take_all c.loop-turn.turn-index c.args.turns.now (omega arith) in
    run_encodes _ _ _ _ _ _ _ c.max_buffer_length_from_utf16_without_replacement-room.ensures.surrogate (λ k. omega (arith, c.type_inv.src k))
    (rw all at c.loop-turn.invariant.run)

pub returns-clause-completes : goal.returns-clause-completes
returns-clause-completes c =
    let all = take_all c.loop-turn.turn-index c.args.turns.now (omega arith) in
    run_completes _ _ _ _ _ _ _ c.max_buffer_length_from_utf16_without_replacement-room.ensures.surrogate (rw all at c.loop-turn.invariant.run)
