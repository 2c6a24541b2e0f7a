pub mod Behind
pub mod Room
pub mod Vecs
pub mod Calling
