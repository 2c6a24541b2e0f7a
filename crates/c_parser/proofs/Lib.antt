pub mod Reading
pub mod Refusals
pub mod Words
pub mod Giving
pub mod Listing
pub mod Finishing
