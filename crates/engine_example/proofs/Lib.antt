pub mod EngineBlockLemmas
pub mod EnginePieceLemmas
pub mod RoundTripLemmas
