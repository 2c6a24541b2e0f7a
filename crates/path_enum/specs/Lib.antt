pub mod Marks
pub mod Weighing
pub mod Steps
pub mod Least
pub mod Guessing
pub mod States
