pub mod Nests
pub mod Loops
pub mod Spans
pub mod Fitting
