pub mod Refused
pub mod Led
