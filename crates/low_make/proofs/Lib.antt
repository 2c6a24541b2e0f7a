pub mod Sites
pub mod Walks
pub mod Marks
pub mod Adding
pub mod Registers
pub mod Visiting
pub mod Holding
