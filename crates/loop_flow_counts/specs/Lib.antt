pub mod Wraps
pub mod Made
