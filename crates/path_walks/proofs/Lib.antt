pub mod PointLemmas
pub mod SoundLemmas
pub mod PriceLemmas
pub mod ListLemmas
pub mod DealLemmas
pub mod SystemLemmas
