pub mod Rows
pub mod Products
pub mod Progress
pub mod Starting
pub mod Sorting
