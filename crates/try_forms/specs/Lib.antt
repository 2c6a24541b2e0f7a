pub mod HighRuns
pub mod LowRuns
