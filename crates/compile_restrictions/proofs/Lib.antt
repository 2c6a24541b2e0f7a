pub mod Sums
pub mod Forms
pub mod Totals
pub mod Kept
