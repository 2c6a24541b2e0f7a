pub mod Forms
pub mod Cuts
pub mod Unique
