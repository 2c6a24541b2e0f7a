pub mod Items
pub mod Sums
pub mod Making
pub mod Translating
