pub mod RunLemmas
pub mod LookLemmas
pub mod LineLemmas
