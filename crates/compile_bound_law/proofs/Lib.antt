pub mod Faults
pub mod Lines
pub mod Restrictions
pub mod Bounds
pub mod Loops
