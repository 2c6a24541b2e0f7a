pub mod Passes
pub mod Lowered
pub mod Laws
pub mod Built
pub mod Steps
pub mod Written
