pub mod Seen
pub mod Places
pub mod Layouts
pub mod Rows
