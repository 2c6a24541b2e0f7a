pub mod Places
pub mod Walks
pub mod Faults
pub mod CodeFaults
pub mod Sizes
