pub mod Typed
pub mod Room
