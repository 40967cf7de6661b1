use Rattle.std.proofs.Common.{false, [], take}
use Rattle.std.specs.List.{flat_map}
use Rattle.engine_example.specs.CutBlocks.{WritesPiece}
use Rattle.engine_example.proofs.blocks_of_utf8.Given as goal

abbrev pub invariant-loop-piece : goal.invariant-loop-piece
invariant-loop-piece l = WritesPiece [] (flat_map (λ piece. piece.now) (take l.piece-index l.pieces)) false
    (flat_map (λ block. block.items) l.blocks.items) l.decoder
