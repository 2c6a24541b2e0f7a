pub mod InSlots
pub mod Examples
