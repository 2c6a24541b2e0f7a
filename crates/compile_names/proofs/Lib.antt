pub mod Lists
pub mod Trees
pub mod Markers
pub mod Sites
pub mod Counted
pub mod Naming
