pub mod Near
pub mod Alone
pub mod Listed
