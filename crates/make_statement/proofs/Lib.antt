pub mod Rows
pub mod Lasts
pub mod Items
pub mod Noting
pub mod Small
pub mod Measures
pub mod Lists
