pub mod Gains
pub mod Sets
pub mod Placings
pub mod Tops
pub mod Rows
