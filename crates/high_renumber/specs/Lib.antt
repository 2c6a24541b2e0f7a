pub mod Numbered
pub mod View
pub mod Keeping
