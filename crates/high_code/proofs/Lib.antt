pub mod Joined
pub mod Staying
pub mod Frames
