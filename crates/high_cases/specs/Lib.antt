pub mod Calls
pub mod Sample
pub mod Loops
