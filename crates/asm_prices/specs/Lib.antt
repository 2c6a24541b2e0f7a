pub mod Worths
pub mod Bounds
pub mod Chosen
