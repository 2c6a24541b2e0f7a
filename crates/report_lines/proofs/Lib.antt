pub mod ValueLemmas
pub mod FitLemmas
pub mod LetterLemmas
pub mod SumLemmas
pub mod TermLemmas
pub mod LabelLemmas
