pub mod WordTestLemmas
pub mod PlaceLemmas
pub mod ValueLemmas
pub mod KindLemmas
pub mod ListLemmas
pub mod FactLemmas
