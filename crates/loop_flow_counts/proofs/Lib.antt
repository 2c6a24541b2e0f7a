pub mod WrapLemmas
pub mod SpreadLemmas
pub mod PassLemmas
pub mod TurnLemmas
