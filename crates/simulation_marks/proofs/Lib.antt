pub mod CountLemmas
pub mod LoopLemmas
pub mod Sums
pub mod Events
pub mod Marks
pub mod Places
pub mod Standing
