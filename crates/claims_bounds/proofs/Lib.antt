pub mod FlowLemmas
pub mod LoopLemmas
pub mod BoundLemmas
