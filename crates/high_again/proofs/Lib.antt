pub mod Lawful
pub mod Making
