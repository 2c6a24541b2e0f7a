pub mod Registered
pub mod Rooming
pub mod Formed
pub mod Examples
