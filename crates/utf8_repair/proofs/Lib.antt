pub mod ServiceLemmas
pub mod ByteStreamLemmas
