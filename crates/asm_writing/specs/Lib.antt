pub mod Targets
pub mod Forms
