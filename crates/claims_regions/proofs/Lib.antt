pub mod Merged
pub mod Walked
pub mod Along
pub mod Based
