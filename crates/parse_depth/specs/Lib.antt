pub mod Before
pub mod Known
