pub mod IndexLemmas
pub mod WritingLemmas
