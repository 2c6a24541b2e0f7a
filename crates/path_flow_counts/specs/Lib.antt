pub mod Puts
pub mod Sums
pub mod Parts
