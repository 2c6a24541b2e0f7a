pub mod Calls
pub mod Chains
