use Rattle.std.proofs.Common.{◌≤◌, length, take}
use Rattle.encoding_text.specs.Encoding.{EncodeStep}
use Rattle.encoding_runs.specs.Runs.{IsRun}
use Rattle.encoding_runs.proofs.run.encoding.run_from_utf16.Given as goal

-- so far it is a run of the first turns
abbrev pub invariant-loop-turn : goal.invariant-loop-turn
invariant-loop-turn l = record {
  run : IsRun EncodeStep l.initial.encoder l.src (take l.turn-index l.turns) l.initial.dst l.dst l.outcome.read l.outcome.written l.outcome.result l.encoder;
  read : l.outcome.read ≤ length l.src;
  written : l.outcome.written ≤ length l.dst;
}
