pub mod PlaceLemmas
pub mod BetweenLemmas
pub mod SpentLemmas
pub mod FaultLemmas
pub mod AddUpLemmas
pub mod FillLemmas
