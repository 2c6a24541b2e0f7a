pub mod Facts
pub mod Reloads
pub mod Laws
