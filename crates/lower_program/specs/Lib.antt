pub mod Following
pub mod Claims
pub mod Kept
