pub mod Rows
pub mod Contents
pub mod RowLaws
pub mod Starts
pub mod Segments
pub mod Views
pub mod SegmentLaws
