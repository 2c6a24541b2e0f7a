pub mod Entries
pub mod Forms
pub mod Lists
pub mod Listing
