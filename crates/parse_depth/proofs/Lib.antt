pub mod Befores
pub mod Steps
pub mod Knowns
pub mod Stops
