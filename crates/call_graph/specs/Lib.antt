pub mod Items
pub mod Search
