pub mod KeptLemmas
pub mod WalkLemmas
pub mod ColumnLemmas
