use Rattle.std.proofs.Common.{length}
use Rattle.decoder_example.proofs.StreamTextLemmas.{IsTextSoFar}
use Rattle.decoder_example.proofs.decode_stream.Given as goal

abbrev pub invariant-loop-rest : goal.invariant-loop-rest
invariant-loop-rest l = IsTextSoFar l.fn.encoding l.fn.bytes l.decoder l.rest l.text.items l.replaced

abbrev pub decreases-loop-rest : goal.decreases-loop-rest
decreases-loop-rest l = length l.rest
