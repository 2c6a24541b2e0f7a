pub mod Sums
pub mod Images
pub mod Counts
pub mod Marks
mod Claims
