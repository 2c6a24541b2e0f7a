mod Lookups
mod FirstFaults
pub mod OneTable
