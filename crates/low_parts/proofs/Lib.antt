pub mod Lists
pub mod Filling
pub mod Functions
pub mod Calls
pub mod Words
pub mod Narrow
pub mod Runs
