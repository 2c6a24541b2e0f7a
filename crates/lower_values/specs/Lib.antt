pub mod Computing
pub mod Laws
pub mod Meeting
