pub mod Said
pub mod Cut
