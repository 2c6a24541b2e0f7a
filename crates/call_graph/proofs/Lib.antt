pub mod Items
pub mod Greatest
pub mod Marks
pub mod Progress
pub mod Seen
pub mod Graphs
pub mod Rows
