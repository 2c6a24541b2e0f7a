pub mod FirstElements
pub mod Effects
pub mod Behind
pub mod Stacks
pub mod Steps
