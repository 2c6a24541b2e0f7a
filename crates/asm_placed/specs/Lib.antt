pub mod Written
pub mod Exits
pub mod Laws
