pub mod Targets
pub mod Standing
pub mod Spread
pub mod Alike
pub mod Linked
pub mod Placed
pub mod Exits
