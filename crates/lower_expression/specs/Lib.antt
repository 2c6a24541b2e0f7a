pub mod View
pub mod Behind
