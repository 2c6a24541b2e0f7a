pub mod Conditions
pub mod Answers
pub mod Laws
pub mod Adding
pub mod OptimumLaws
