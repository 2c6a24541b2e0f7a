pub mod Seen
pub mod Singles
pub mod Merging
