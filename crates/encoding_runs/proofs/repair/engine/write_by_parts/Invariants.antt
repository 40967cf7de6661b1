use Rattle.std.proofs.Common.{◌≡◌, ◌≤◌, ◌-◌, length, take}
use Rattle.std.specs.Io.KnownBytes.{Appends}
use Rattle.encoding_runs.proofs.repair.engine.write_by_parts.Given as goal

abbrev pub invariant-loop-at : goal.invariant-loop-at
invariant-loop-at g l = record {
  within : l.at ≤ length l.bytes;
  wrote : Appends (g.W.Sink.contents l.initial.writer) (g.W.Sink.contents l.writer) (take l.at l.bytes);
  failed : g.W.Sink.has_failed l.writer ≡ g.W.Sink.has_failed l.initial.writer;
  keeps : g.W.Sink.keeps l.initial.writer l.writer;
}

abbrev pub decreases-loop-at : goal.decreases-loop-at
decreases-loop-at g l = length l.initial.bytes - l.at
