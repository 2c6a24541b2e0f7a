pub mod Tasks
pub mod Equation
pub mod Schedule
pub mod Together
pub mod Ends
pub mod Faults
