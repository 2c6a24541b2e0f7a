pub mod Renaming
pub mod Copies
pub mod Laws
