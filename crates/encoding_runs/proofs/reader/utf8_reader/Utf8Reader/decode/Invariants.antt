use Rattle.std.proofs.Common.{◌≡◌, ◌-◌, ◌≤◌, [], length}
use Rattle.std.specs.Io.KnownBytes.{Keeps}
use Rattle.encoding_runs.specs.Reading.{text_left}
use Rattle.encoding_runs.proofs.reader.utf8_reader.Utf8Reader.decode.Given as goal

abbrev pub invariant-loop-last : goal.invariant-loop-last
invariant-loop-last g l = record {
  text : Keeps (text_left g.R.Read.remaining l.fn.self) (text_left g.R.Read.remaining l.self);
  held : l.self.held ≡ [];
  room : 7 ≤ length l.dst;
}

abbrev pub decreases-loop-last : goal.decreases-loop-last
decreases-loop-last g l = 4 - length l.self.decoder
