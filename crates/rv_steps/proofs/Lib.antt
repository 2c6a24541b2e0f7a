pub mod LaterLemmas
pub mod StepLemmas
