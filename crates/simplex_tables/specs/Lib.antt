pub mod Rows
pub mod Choices
pub mod Shapes
pub mod Pivots
pub mod Runs
