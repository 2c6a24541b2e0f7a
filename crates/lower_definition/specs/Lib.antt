pub mod Objects
pub mod Operators
pub mod Values
pub mod Calls
pub mod Statements
pub mod Programs
pub mod Example
