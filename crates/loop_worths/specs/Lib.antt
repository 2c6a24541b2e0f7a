pub mod Rings
pub mod Sizes
pub mod Outcomes
