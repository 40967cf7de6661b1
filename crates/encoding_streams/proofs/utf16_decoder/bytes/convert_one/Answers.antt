use Rattle.encoding_streams.proofs.Utf16StepLemmas.{character_advance}
use Rattle.encoding_streams.proofs.utf16_decoder.bytes.convert_one.Goals as goal

pub returns : goal.returns
returns c =
    let (scalar, within, spelled, some) = c.in-Some.ensures in
    character_advance c.args.order c.args.src.now c.in-Some.scalar scalar within spelled c.write_scalar.ensures
