pub mod StartShapes
pub mod NextLemmas
mod Worked
pub mod Multiples
pub mod NarrowLemmas
pub mod SideLemmas
pub mod StepLemmas
