pub mod Facts
pub mod Planning
