pub mod PlaceLemmas
pub mod WayLemmas
pub mod ReachedLemmas
pub mod RangeLemmas
pub mod BackLemmas
pub mod FittingLemmas
pub mod PlacedLemmas
