pub mod Near
pub mod Loose
pub mod Reach
pub mod LooseWalk
pub mod Beside
