use Rattle.std.proofs.Common.{◌≡◌, ◌≤◌, ◌-◌}
use Rattle.encoding_runs.specs.Steps.{Reaches}
use Rattle.encoding_runs.proofs.repair.engine.repair.Given as goal

abbrev pub invariant-loop-read : goal.invariant-loop-read
invariant-loop-read g l = record {
  reaches : Reaches (g.R.Source.remaining l.fn.reader) (g.R.Source.remaining l.reader) (g.W.Sink.contents l.fn.writer)
      (g.W.Sink.contents l.writer) l.read l.replaced l.decoder;
  within : l.read ≤ l.limit;
  ended : g.R.Source.has_ended l.reader ≡ g.R.Source.has_ended l.fn.reader;
  reader_failed : g.R.Source.has_failed l.reader ≡ g.R.Source.has_failed l.fn.reader;
  writer_failed : g.W.Sink.has_failed l.writer ≡ g.W.Sink.has_failed l.fn.writer;
  reader_stream : g.R.Source.stream l.reader ≡ g.R.Source.stream l.fn.reader;
  writer_keeps : g.W.Sink.keeps l.fn.writer l.writer;
}

abbrev pub decreases-loop-read : goal.decreases-loop-read
decreases-loop-read g l = l.limit - l.read
