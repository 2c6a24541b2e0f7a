pub mod Ranges
pub mod Kept
pub mod Folded
pub mod Listed
pub mod Done
