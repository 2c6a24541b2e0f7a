pub mod Homes
pub mod Operators
pub mod Values
pub mod Statements
pub mod Layouts
pub mod Programs
