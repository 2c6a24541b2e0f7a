pub mod Whole
pub mod Emitting
pub mod Parts
pub mod Stores
