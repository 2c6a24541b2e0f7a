pub mod Numbers
pub mod Sizes
pub mod Moves
pub mod Few
