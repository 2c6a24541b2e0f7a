pub mod Scenes
pub mod Making
pub mod Changing
pub mod Weighing
pub mod Sizes
