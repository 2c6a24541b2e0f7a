pub mod Checks
pub mod Causes
pub mod Summaries
