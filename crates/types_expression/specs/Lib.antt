pub mod Breaks
pub mod Walk
pub mod Checked
