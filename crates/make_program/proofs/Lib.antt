pub mod Needed
pub mod Begun
