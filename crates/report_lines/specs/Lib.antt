pub mod LineShapes
pub mod LineLists
pub mod ListProgress
pub mod Sums
