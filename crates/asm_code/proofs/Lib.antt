pub mod Registers
pub mod Bodies
pub mod Placed
pub mod Parameters
pub mod Steps
