use Rattle.std.proofs.Common.{false, [], take}
use Rattle.std.specs.List.{flat_map}
use Rattle.engine_example.specs.CutBlocks.{WritesBlock}
use Rattle.engine_example.proofs.utf8_of_blocks.Given as goal

abbrev pub invariant-loop-block : goal.invariant-loop-block
invariant-loop-block l = WritesBlock [] (flat_map (λ block. block.items) (take l.block-index l.blocks)) false l.bytes.items l.encoder
