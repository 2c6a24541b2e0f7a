pub mod Promoting
pub mod Suiting
pub mod Paying
pub mod Laws
