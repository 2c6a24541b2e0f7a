pub mod ClaimLemmas
pub mod FitLemmas
