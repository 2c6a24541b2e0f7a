pub mod OffsetLemmas
pub mod MoveLemmas
pub mod StandingLemmas
pub mod PlacedLemmas
