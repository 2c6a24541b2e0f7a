pub mod ConditionLemmas
pub mod FewLemmas
