pub mod Shares
pub mod Loads
pub mod Arguments
