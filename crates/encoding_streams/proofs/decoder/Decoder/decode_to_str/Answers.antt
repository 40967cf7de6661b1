use Rattle.encoding_definitions.proofs.ClearingLemmas.{only_continuation, text_stays, written_stays}
use Rattle.encoding_streams.proofs.TextDestinationLemmas.{replaced_text}
use Rattle.encoding_streams.proofs.decoder.Decoder.decode_to_str.Goals as goal

pub returns-clause-text : goal.returns-clause-text
returns-clause-text c =
    let call = c.decode_to_utf8-result in
    let made = call.ensures.call.replaces in
    text_stays c.args.dst.now call.new.dst c.clear_continuation_bytes.new.bytes 0 _ made.out made.writes
    (only_continuation call.new.dst _ call.result.2 c.clear_continuation_bytes.ensures) c.requires.text
    (replaced_text _ _ _ _ _ _ _ _ _ made)

pub returns-clause-exact : goal.returns-clause-exact
returns-clause-exact c =
    let call = c.decode_to_utf8-result in
    rw (written_stays c.args.dst.now call.new.dst c.clear_continuation_bytes.new.bytes 0 _ _ call.ensures.call.replaces.writes
    (only_continuation call.new.dst _ call.result.2 c.clear_continuation_bytes.ensures)) call.ensures.exact
