use Rattle.std.proofs.Common.{◌≡◌, length, string_bytes}
use Rattle.encoding_streams.specs.TextReading.{stream_left}
use Rattle.encoding_streams.proofs.TextReaderLemmas.{IsReadSoFar}
use Rattle.encoding_streams.proofs.reader.TextReader.read_text.Given as goal

abbrev pub invariant-loop : goal.invariant-loop
invariant-loop g l = record {
  so_far : IsReadSoFar (stream_left g.R.Read.remaining l.fn.self) (stream_left g.R.Read.remaining l.self) (string_bytes l.text);
  block : length l.block ≡ 1024;
  decoded : length l.decoded ≡ 3084;
}
