pub mod CheckLemmas
mod SystemLemmas
pub mod ExclusionLemmas
