pub mod Simulation
pub mod Blocks
pub mod Lookups
pub mod Limits
pub mod Parts
