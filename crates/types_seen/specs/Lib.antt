pub mod Growing
pub mod Seen
pub mod Fronts
pub mod Units
