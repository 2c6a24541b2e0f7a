pub mod Blocks
pub mod Claims
pub mod Stores
pub mod Serving
pub mod Formed
pub mod Reaches
