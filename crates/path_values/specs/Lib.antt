pub mod Costs
pub mod Owed
pub mod Plain
pub mod Laws
