pub mod Rooms
pub mod Segments
pub mod Items
pub mod Images
pub mod Kept
