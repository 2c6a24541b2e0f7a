pub mod Reached
pub mod Places
pub mod PlaceLaws
pub mod Driver
pub mod RowLaws
pub mod Duals
pub mod DualLaws
