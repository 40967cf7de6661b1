use Rattle.std.proofs.Common.{◌≡◌, length}
use Rattle.encoding_runs.specs.Runs.{EachMakesProgress}
use Rattle.engine_example.proofs.turns.small_turns.Given as goal

abbrev pub invariant-loop : goal.invariant-loop
invariant-loop l = record {
  count : length l.turns.items ≡ l.counter;
  each : EachMakesProgress 4 l.turns.items;
}
