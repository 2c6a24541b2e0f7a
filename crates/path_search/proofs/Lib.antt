pub mod ConditionLemmas
pub mod SearchLemmas
