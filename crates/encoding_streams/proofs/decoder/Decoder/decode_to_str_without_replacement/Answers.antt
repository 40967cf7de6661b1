use Rattle.encoding_definitions.proofs.ClearingLemmas.{only_continuation, text_stays, written_stays}
use Rattle.encoding_streams.proofs.TextDestinationLemmas.{decoded_text}
use Rattle.encoding_streams.proofs.decoder.Decoder.decode_to_str_without_replacement.Goals as goal

pub returns-clause-text : goal.returns-clause-text
returns-clause-text c =
    let call = c.decode_to_utf8_without_replacement-result in
    let made = call.ensures.call in
    text_stays c.args.dst.now call.new.dst c.clear_continuation_bytes.new.bytes 0 _ made.out made.writes
    (only_continuation call.new.dst _ call.result.2 c.clear_continuation_bytes.ensures) c.requires.text
    (decoded_text _ _ made.parts made.decoded)

pub returns-clause-exact : goal.returns-clause-exact
returns-clause-exact c =
    let call = c.decode_to_utf8_without_replacement-result in
    rw (written_stays c.args.dst.now call.new.dst c.clear_continuation_bytes.new.bytes 0 _ _ call.ensures.call.writes
    (only_continuation call.new.dst _ call.result.2 c.clear_continuation_bytes.ensures)) call.ensures.exact
