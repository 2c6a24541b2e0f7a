pub mod Alone
pub mod Keeping
pub mod TotalLemmas
pub mod KeptLemmas
pub mod Kept
