pub mod Offsets
pub mod Items
pub mod Placings
pub mod Promises
pub mod Standing
pub mod Outcomes
