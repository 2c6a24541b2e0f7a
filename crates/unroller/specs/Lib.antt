pub mod View
pub mod Sorting
