pub mod Tops
pub mod Useful
pub mod Chosen
pub mod RowLemmas
pub mod Marks
pub mod Taking
pub mod GainLemmas
