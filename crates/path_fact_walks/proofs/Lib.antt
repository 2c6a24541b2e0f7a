pub mod SizeLemmas
pub mod OweLemmas
pub mod MentionLemmas
