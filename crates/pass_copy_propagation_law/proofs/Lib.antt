pub mod Blocks
pub mod Stores
pub mod Omitted
pub mod Renamed
pub mod Serving
pub mod Costs
pub mod Formed
