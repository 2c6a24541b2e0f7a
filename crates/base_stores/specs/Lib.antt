pub mod FileList
pub mod States
pub mod Failing
