pub mod Mixes
pub mod MixLaws
pub mod Columns
pub mod Searched
pub mod Causes
pub mod Kinds
