pub mod Sources
pub mod Restricted
pub mod Found
pub mod Visits
