pub mod SoundLaws
pub mod Sizes
pub mod Functions
