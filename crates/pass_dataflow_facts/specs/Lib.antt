pub mod Forms
pub mod Facts
