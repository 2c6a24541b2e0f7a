pub mod Residents
pub mod Checking
