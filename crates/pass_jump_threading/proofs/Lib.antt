pub mod Lists
pub mod Knowing
pub mod Leading
pub mod Blocks
