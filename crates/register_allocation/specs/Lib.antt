pub mod Spills
pub mod Orders
pub mod Scans
pub mod Masks
pub mod Briefs
pub mod Views
pub mod Fitting
