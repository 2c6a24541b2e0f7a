pub mod Pragmas
pub mod Sources
pub mod Written
pub mod Counts
pub mod Named
pub mod Facts
pub mod Limited
