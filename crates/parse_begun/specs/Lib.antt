pub mod BeforeLast
pub mod View
pub mod Depths
