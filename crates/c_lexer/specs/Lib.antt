pub mod Bytes
pub mod Comments
pub mod Forms
pub mod Kinds
pub mod Cut
