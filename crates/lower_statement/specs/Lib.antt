pub mod Whole
pub mod Sharing
pub mod View
