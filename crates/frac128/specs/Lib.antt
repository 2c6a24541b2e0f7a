pub mod Frac
pub mod Arithmetic
pub mod Terms
pub mod Sum
