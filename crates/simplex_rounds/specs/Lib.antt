pub mod Starts
pub mod Rounds
pub mod Limits
pub mod Multiplied
pub mod Weighted
