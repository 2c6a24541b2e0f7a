pub mod Distances
pub mod Shorter
pub mod Regions
pub mod Layouts
pub mod Sound
pub mod Laid
