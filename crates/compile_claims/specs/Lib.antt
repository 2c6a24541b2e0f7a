pub mod Places
pub mod Named
pub mod ClaimLaws
pub mod CopyLines
pub mod Shares
