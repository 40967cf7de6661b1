use Rattle.std.proofs.Common.{subst}
use Rattle.encoding_c.specs.DecoderStates.{IsEncodingNumber}
use Rattle.encoding_c.proofs.stream_decoder.encoding_text_decoder_encoding.Goals as goal

pub returns : goal.returns
returns c = (
  c.restored.result,
  c.restored.ensures,
  subst (λ e. IsEncodingNumber c.encoding_number.result e) c.encoding.ensures c.encoding_number.ensures.number,
  c.encoding_number.ensures.at_most_two,
)
