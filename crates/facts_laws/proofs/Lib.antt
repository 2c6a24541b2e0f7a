pub mod Renaming
pub mod Numbering
pub mod Naming
pub mod Cutting
pub mod Units
pub mod Stopping
pub mod Ranking
pub mod Sources
