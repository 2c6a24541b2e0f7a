pub mod Kinds
pub mod Operators
