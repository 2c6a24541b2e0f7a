pub mod Systems
pub mod Bounds
pub mod Lines
pub mod Counting
