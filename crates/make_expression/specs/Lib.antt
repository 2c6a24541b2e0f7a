pub mod Makes
pub mod Sizes
