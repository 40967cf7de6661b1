pub mod PlaceLemmas
pub mod CheckLemmas
pub mod LineLemmas
