pub mod VisitLaws
pub mod MarkLaws
