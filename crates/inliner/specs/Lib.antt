pub mod Moving
pub mod Opening
pub mod Budgets
pub mod Walking
pub mod Inlining
pub mod Sites
pub mod Measures
pub mod View
