pub mod LengthLaws
pub mod Shows
pub mod RunLaws
pub mod ToldLaws
