pub mod Lists
pub mod Rows
pub mod ObjectFaults
pub mod Types
pub mod ParamRows
pub mod DeclarationFaults
