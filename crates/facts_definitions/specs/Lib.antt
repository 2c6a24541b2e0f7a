pub mod PragmaTexts
pub mod Sites
pub mod Starts
pub mod Most
pub mod FlowFacts
