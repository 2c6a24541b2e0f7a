pub mod Numbers
pub mod Stores
pub mod Effects
pub mod Traces
pub mod Serving
pub mod Ways
pub mod Costs
pub mod Formed
