pub mod Flows
pub mod Bounds
