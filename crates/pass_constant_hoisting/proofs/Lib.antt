pub mod Stores
pub mod Instructions
pub mod Tables
pub mod Follow
pub mod Formed
pub mod Costs
