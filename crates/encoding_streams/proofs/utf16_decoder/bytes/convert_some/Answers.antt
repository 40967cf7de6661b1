use Rattle.encoding_streams.proofs.Utf16StepLemmas.{scalars_advance}
use Rattle.encoding_streams.proofs.utf16_decoder.bytes.convert_some.Goals as goal

pub returns : goal.returns
returns c =
    let call = c.convert_utf16_bytes_to_utf8_up_to_invalid.ensures in
    scalars_advance c.args.order c.args.src.now call.read call.converted
