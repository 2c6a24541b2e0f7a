pub mod Entries
pub mod Trees
