pub mod Sights
pub mod Whole
