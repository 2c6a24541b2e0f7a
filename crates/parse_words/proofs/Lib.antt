pub mod Names
pub mod Tellings
pub mod Runs
