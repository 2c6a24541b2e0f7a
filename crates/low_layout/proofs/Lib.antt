pub mod WordLemmas
pub mod SpotLemmas
pub mod LaidLemmas
