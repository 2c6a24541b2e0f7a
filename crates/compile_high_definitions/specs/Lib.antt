pub mod Limits
pub mod Carried
