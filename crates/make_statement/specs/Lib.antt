pub mod Planned
pub mod Parts
pub mod Sizes
