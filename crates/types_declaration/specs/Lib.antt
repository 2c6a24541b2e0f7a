pub mod Values
pub mod Objects
pub mod Params
pub mod Declarations
