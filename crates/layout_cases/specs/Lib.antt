pub mod Rooms
pub mod Registers
