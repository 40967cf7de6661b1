use Rattle.std.proofs.Common.{arith}
use Rattle.std.proofs.lemmas.Grind.{common_steps}
use Rattle.engine_example.proofs.EnginePieceLemmas.{text_written}
use Rattle.engine_example.proofs.block_of_text.Goals as goal

pub returns : goal.returns
returns c =
    let call = rw (c.new_inner-decoder.ensures, c.as_bytes.ensures.value) at c.decode_to_utf16_raw-written.ensures.call in
    let written =
    text_written c.law_mixed_calls.ensures.text c.law_mixed_calls.ensures.queried _ _ _ _ _ _ _ _ c.utf8.text (grind (arith, common_steps)) call in
    grind (arith, common_steps)
