pub mod Begun
pub mod Machine
pub mod Law
pub mod Depth
