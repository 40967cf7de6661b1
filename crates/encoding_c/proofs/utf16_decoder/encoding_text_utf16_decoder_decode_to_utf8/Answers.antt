use Rattle.encoding_c.proofs.utf16_decoder.encoding_text_utf16_decoder_decode_to_utf8.Goals as goal

pub returns-clause-call : goal.returns-clause-call
returns-clause-call c =
    let s = c.decode_to_utf8_raw-ended.ensures in
    let d = c.decoded.ensures in
    record {
      p = c.restored-inner.result;
      done = c.decode_to_utf8_raw-ended.result.0;
      q = c.decode_to_utf8_raw-ended.new.self;
      stood = c.restored-inner.ensures.represented;
      stands = c.store.ensures;
      reported = d.reported;
      says = (s.order, rw (d.counts.0, d.counts.1) (s.call, s.suffices, s.suffices_replacing));
    }
