pub mod Sighted
pub mod Wholes
