pub mod Listing
pub mod Carries
pub mod Law
pub mod Composing
