pub mod TableLemmas
pub mod NeedsLemmas
pub mod FrameLemmas
pub mod SavingLemmas
