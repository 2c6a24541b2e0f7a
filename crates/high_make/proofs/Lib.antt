pub mod Marks
pub mod Listed
pub mod Small
pub mod Keeps
