use Rattle.encoding_streams.proofs.MixedDecoderLemmas.{yield_the_stream}
use Rattle.encoding_streams.proofs.laws.law_mixed_decoder_calls.Goals as goal

pub returns : goal.returns
returns c = yield_the_stream
