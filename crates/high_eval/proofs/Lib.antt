pub mod FirstElements
pub mod Behind
pub mod Room
pub mod Calling
