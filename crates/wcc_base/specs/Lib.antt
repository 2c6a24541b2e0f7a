pub mod Outside
pub mod Limits
pub mod Budgets
pub mod StatusCode
pub mod Signs
pub mod Words
pub mod Sizes
