pub mod SuffixLemmas
pub mod PairSizes
pub mod TurnSizes
pub mod LevelSizes
