use Rattle.std.proofs.Common.{arith}
use Rattle.std.proofs.lemmas.Grind.{common_steps}
use Rattle.engine_example.proofs.EngineBlockLemmas.{block_written}
use Rattle.engine_example.proofs.append_block.Goals as goal

pub returns-clause-written : goal.returns-clause-written
returns-clause-written c =
    let empty = c.encode_from_utf16_raw-written.ensures.suffices (grind (arith, common_steps)) in
    let call = rw empty at c.encode_from_utf16_raw-written.ensures.call in
    (_, grind (arith, common_steps), block_written c.law_encoder_cuts.ensures.first_parts _ _ _ _ _ _ _ (λ k. omega (arith, c.type_inv.block k)) call)
