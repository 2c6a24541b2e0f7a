pub mod Told
pub mod Scoped
