pub mod SignedLemmas
pub mod GcdLemmas
pub mod TermsLemmas
pub mod FracLemmas
pub mod OrderLemmas
pub mod SumLemmas
