pub mod Placing
pub mod Finding
mod Stopping
pub mod Reaching
mod Growing
mod Finishing
