pub mod WellFormedLemmas
