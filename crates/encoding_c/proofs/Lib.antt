pub mod StateLemmas
pub mod LengthLemmas
pub mod DecoderStateLemmas
pub mod SearchStateLemmas
