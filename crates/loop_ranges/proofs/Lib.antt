pub mod NearLemmas
pub mod WalkRanges
pub mod LevelRanges
pub mod LevelsBelow
pub mod LooseLemmas
pub mod FarLemmas
pub mod BesideLemmas
pub mod FlowLemmas
