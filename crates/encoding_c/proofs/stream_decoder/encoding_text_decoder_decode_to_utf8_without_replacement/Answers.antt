use Rattle.encoding_c.proofs.stream_decoder.encoding_text_decoder_decode_to_utf8_without_replacement.Goals as goal

pub returns : goal.returns
returns c =
    let s = c.decode_to_utf8_without_replacement-ended.ensures in
    let d = c.decoded.ensures in
    record {
      p = c.restored-inner.result;
      done = c.decode_to_utf8_without_replacement-ended.result.0;
      q = c.decode_to_utf8_without_replacement-ended.new.self;
      stood = c.restored-inner.ensures;
      stands = c.stored.ensures;
      reported = d.reported;
      says = rw (d.counts.0, d.counts.1) (s.call, s.exact, s.lengths, s.suffices, s.suffices_replacing);
    }
