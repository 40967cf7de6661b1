use Rattle.std.specs.Char.Escape.{encode_utf16}
use Rattle.std.proofs.Common.{encode_utf8}
use Rattle.encoding_streams.proofs.DecoderChainLemmas.{write_the_text}
use Rattle.encoding_streams.proofs.laws.law_decoder_calls.Goals as goal

pub returns : goal.returns
returns c = record {
  utf16 = write_the_text encode_utf16 2;
  utf8 = write_the_text encode_utf8 4;
}
