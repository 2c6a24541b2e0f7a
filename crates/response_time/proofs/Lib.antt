pub mod FormLemmas
pub mod ListLemmas
pub mod OneList
