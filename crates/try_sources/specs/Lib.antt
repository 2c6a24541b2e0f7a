pub mod Sources
pub mod Verdicts
