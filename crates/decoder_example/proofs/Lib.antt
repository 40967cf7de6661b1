pub mod YieldedLemmas
pub mod StreamTextLemmas
