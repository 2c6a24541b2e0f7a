pub mod Knowing
pub mod Steps
pub mod Laws
