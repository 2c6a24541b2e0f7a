pub mod Holding
pub mod Carried
