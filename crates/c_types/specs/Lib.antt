pub mod Draft
pub mod Outline
pub mod Tally
pub mod Unit
