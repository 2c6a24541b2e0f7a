pub mod Serving
pub mod Standing
pub mod Starts
pub mod Factor
pub mod Unrolling
pub mod Programs
pub mod Promise
