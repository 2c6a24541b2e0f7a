pub mod Ways
pub mod Following
pub mod Making
pub mod Blocks
pub mod Weights
pub mod Wholes
