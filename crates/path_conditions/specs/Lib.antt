pub mod Natural
pub mod Bounding
pub mod Searching
pub mod Walking
