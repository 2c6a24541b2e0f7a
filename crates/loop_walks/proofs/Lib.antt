pub mod LargerLemmas
pub mod EachLemmas
pub mod WalkLemmas
pub mod TurnLemmas
pub mod PairLemmas
pub mod LevelLemmas
pub mod UntouchedLemmas
