pub mod CutPieceLemmas
