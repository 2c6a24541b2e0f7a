pub mod LayingLemmas
pub mod RegionLemmas
