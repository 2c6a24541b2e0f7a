pub mod Loops
pub mod Factors
pub mod Changes
pub mod Counting
pub mod CountingLoops
