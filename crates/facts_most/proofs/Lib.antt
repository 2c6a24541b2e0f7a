pub mod Cut
pub mod Rows
pub mod Alike
pub mod Depth
pub mod Table
