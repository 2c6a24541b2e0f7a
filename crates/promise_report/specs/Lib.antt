pub mod Runs
pub mod Facts
pub mod Compiled
