pub mod Rows
pub mod Verdicts
pub mod Leasts
pub mod Multipliers
pub mod Tests
