pub mod Values
pub mod Lines
pub mod Claims
pub mod Parts
pub mod Visits
