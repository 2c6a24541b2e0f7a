pub mod RowLemmas
mod StepLemmas
mod Lists
pub mod ShapeLemmas
