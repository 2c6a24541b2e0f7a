pub mod Orders
pub mod Closed
pub mod Reached
pub mod Passing
