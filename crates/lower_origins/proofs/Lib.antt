pub mod Members
pub mod Visits
pub mod Sites
pub mod Growing
pub mod Closing
pub mod Numbering
pub mod Reaching
pub mod Passings
