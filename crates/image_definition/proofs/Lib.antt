pub mod RowLemmas
pub mod LaidLemmas
pub mod CodeLemmas
pub mod FitLemmas
