pub mod NearLemmas
pub mod AloneLemmas
pub mod RowLemmas
