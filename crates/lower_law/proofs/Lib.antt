pub mod Bases
pub mod Functions
pub mod Totals
pub mod Law
