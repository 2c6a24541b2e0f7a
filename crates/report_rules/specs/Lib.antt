pub mod Rules
pub mod WordTests
pub mod Heads
pub mod KindForms
pub mod ClaimRules
pub mod FactRules
pub mod FactForms
pub mod CertRules
