use Rattle.std.proofs.Common.{◌≡◌, ◌+◌, ◌++◌, length}
use Rattle.encoding_runs.specs.Steps.{WritesParts}
use Rattle.encoding_runs.proofs.repair.engine.write_parts.Given as goal

abbrev pub invariant-loop-writer : goal.invariant-loop-writer
invariant-loop-writer g l = record {
  wrote : WritesParts l.last (l.fn.decoder ++ l.src) (l.decoder ++ l.rest) (g.W.Sink.contents l.fn.writer) (g.W.Sink.contents l.writer) l.replaced;
  failed : g.W.Sink.has_failed l.writer ≡ g.W.Sink.has_failed l.fn.writer;
  keeps : g.W.Sink.keeps l.fn.writer l.writer;
}

abbrev pub decreases-loop-writer : goal.decreases-loop-writer
decreases-loop-writer g l = length l.decoder + length l.rest
