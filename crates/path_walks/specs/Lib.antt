pub mod Prices
pub mod Opens
pub mod Deals
pub mod Functions
pub mod Sizes
