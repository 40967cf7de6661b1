pub mod CutBlocks
pub mod SmallTurns
