pub mod Tallies
pub mod Outlines
pub mod Functions
pub mod Seals
pub mod Definitions
