pub mod Placed
pub mod Units
pub mod Framed
pub mod Checked
pub mod Memory
pub mod Small
pub mod Elements
