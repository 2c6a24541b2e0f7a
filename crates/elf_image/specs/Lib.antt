pub mod Text
pub mod Headers
pub mod Sorting
pub mod Loading
pub mod Faults
pub mod Progress
pub mod Addresses
