pub mod Graphs
pub mod Laid
pub mod Placed
pub mod Promised
