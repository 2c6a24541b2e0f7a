pub mod Stacks
pub mod Behind
pub mod Kept
pub mod Masks
pub mod Placed
pub mod Steps
