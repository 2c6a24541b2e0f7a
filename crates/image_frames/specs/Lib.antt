pub mod Registers
pub mod Needs
pub mod Frames
pub mod Memories
pub mod Placings
pub mod Laws
