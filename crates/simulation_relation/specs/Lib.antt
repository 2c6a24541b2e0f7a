pub mod Plans
pub mod Noted
pub mod Layouts
pub mod Positions
pub mod Views
pub mod Waiting
pub mod Following
