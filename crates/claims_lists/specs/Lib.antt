pub mod Rows
pub mod Outlines
pub mod Places
pub mod Loops
pub mod Marks
pub mod Lists
pub mod Spans
