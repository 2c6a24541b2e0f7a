pub mod Walks
pub mod Turns
pub mod Multipliers
pub mod Levels
pub mod Rows
pub mod Laws
