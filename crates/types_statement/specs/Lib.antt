pub mod Within
pub mod Labels
pub mod Walk
pub mod Checked
