pub mod PotentialLemmas
pub mod OwedLemmas
pub mod SameLemmas
pub mod MultiplierLemmas
pub mod ValueLemmas
