pub mod Conditions
pub mod Kinds
pub mod Unmarked
