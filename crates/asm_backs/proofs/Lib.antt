pub mod PairLemmas
pub mod LatchLemmas
pub mod RatioLemmas
pub mod BackLemmas
