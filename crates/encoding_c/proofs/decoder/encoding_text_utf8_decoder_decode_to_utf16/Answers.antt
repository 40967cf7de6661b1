use Rattle.encoding_c.proofs.decoder.encoding_text_utf8_decoder_decode_to_utf16.Goals as goal

pub returns-clause-call : goal.returns-clause-call
returns-clause-call c =
    let s = c.decode_to_utf16_raw-ended.ensures in
    let d = c.decoded.ensures in
    record {
      p = c.restored-inner.result;
      done = c.decode_to_utf16_raw-ended.result.0;
      q = c.decode_to_utf16_raw-ended.new.self;
      stood = c.restored-inner.ensures.represented;
      stands = c.stored.ensures;
      reported = d.reported;
      says = rw (d.counts.0, d.counts.1) (s.call, s.suffices, s.suffices_replacing);
    }
