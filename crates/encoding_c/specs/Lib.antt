pub mod Status
pub mod States
pub mod Buffers
pub mod DecoderStates
pub mod Searches
