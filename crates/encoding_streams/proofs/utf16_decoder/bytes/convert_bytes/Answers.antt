use Rattle.std.proofs.Common.{[], encode_utf8}
use Rattle.encoding_streams.proofs.Utf16StepLemmas.{advance_then, ascii_advance}
use Rattle.encoding_streams.proofs.utf16_decoder.bytes.convert_bytes.Goals as goal

pub returns-then-is_for_resume : goal.returns-then-is_for_resume
returns-then-is_for_resume c =
    let copied = c.copy_utf16_bytes_to_ascii-ascii.ensures in
    ascii_advance c.args.order c.args.src.now copied.read copied.copied

pub returns : goal.returns
returns c =
    let order = c.args.order in
    let copied = c.copy_utf16_bytes_to_ascii-ascii.ensures in
    let call = c.convert_some-more.ensures in
    let first = ascii_advance order c.args.src.now copied.read copied.copied in
    advance_then order encode_utf8 [] [] [] c.args.src.now _ _ _ _ _ _ _ first call
