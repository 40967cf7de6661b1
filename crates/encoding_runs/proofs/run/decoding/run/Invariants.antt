use Rattle.std.proofs.Common.{◌≤◌, length, take}
use Rattle.encoding_runs.specs.Steps.{IsReportedRun}
use Rattle.encoding_runs.proofs.run.decoding.run.Given as goal

abbrev pub invariant-loop-turn : goal.invariant-loop-turn
invariant-loop-turn g l = record {
  run : IsReportedRun g.U.CodeUnit.encode g.U.CodeUnit.MAX_UNITS l.fn.decoder l.src
      (take l.turn-index l.turns) l.fn.dst l.dst l.fn.reports l.reports l.outcome l.decoder;
  read : l.outcome.read ≤ length l.src;
  written : l.outcome.written ≤ length l.dst;
  reports : l.outcome.reports ≤ l.turn-index;
}
