pub mod Loosened
pub mod LooseDriver
pub mod LooseLaws
pub mod Bounded
pub mod Ranges
pub mod Limits
pub mod Narrow
