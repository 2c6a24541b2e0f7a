pub mod Touched
pub mod Steps
