pub mod PartDepths
pub mod Deeper
pub mod SameDepths
