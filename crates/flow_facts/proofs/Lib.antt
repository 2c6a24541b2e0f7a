pub mod Coefficients
pub mod Kept
pub mod Named
pub mod Outcome
pub mod Rows
