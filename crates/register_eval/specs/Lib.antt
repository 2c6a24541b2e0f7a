pub mod Laid
pub mod Tables
pub mod Stands
pub mod Seen
