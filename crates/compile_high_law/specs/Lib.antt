pub mod Trees
pub mod Spelled
pub mod Laws
