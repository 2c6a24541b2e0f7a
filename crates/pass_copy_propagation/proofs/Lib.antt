pub mod Wider
pub mod Finding
pub mod Standing
pub mod Going
pub mod Begun
pub mod Blocks
