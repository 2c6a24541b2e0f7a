pub mod Counting
pub mod Elements
pub mod Factors
pub mod Entries
pub mod Counts
pub mod Lists
pub mod Origins
pub mod Continuing
