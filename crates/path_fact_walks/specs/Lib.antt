pub mod Sizes
pub mod Plain
