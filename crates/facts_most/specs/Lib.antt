pub mod Items
pub mod Ranked
