pub mod SizeLaws
pub mod Turns
pub mod TurnLaws
