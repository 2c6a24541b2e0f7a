pub mod Making
pub mod Entries
