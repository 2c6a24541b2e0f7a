pub mod Words
pub mod Said
pub mod Tree
pub mod Spelling
pub mod Formed
