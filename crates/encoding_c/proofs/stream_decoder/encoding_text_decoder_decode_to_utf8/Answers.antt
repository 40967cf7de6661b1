use Rattle.encoding_c.proofs.stream_decoder.encoding_text_decoder_decode_to_utf8.Goals as goal

pub returns : goal.returns
returns c = record {
  p = c.restored-inner.result;
  done = c.decode_to_utf8-ended.result.0;
  q = c.decode_to_utf8-ended.new.self;
  stood = c.restored-inner.ensures;
  stands = c.stored.ensures;
  reported = c.coder_number.ensures;
  says = (c.decode_to_utf8-ended.ensures.call, c.decode_to_utf8-ended.ensures.exact, c.decode_to_utf8-ended.ensures.suffices);
}
