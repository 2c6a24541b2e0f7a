pub mod LevelLemmas
pub mod SumLemmas
pub mod FlowLemmas
pub mod CostLemmas
