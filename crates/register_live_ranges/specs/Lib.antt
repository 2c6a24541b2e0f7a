pub mod Intervals
pub mod Rows
pub mod Accesses
pub mod Sources
pub mod Walks
pub mod Found
