pub mod Segments
pub mod Blocks
pub mod NestingLaws
