pub mod First
pub mod Direct
pub mod Progress
pub mod Evaluated
