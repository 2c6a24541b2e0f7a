pub mod Words
pub mod Fields
pub mod Numbers
pub mod Splitting
pub mod Scanning
pub mod Shapes
pub mod Testing
