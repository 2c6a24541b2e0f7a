pub mod Ordering
pub mod Rooms
pub mod Heads
pub mod Outlined
pub mod Marking
pub mod Listing
