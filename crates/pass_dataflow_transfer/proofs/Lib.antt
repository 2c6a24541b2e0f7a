pub mod Facts
pub mod Tables
pub mod Operators
pub mod Effects
pub mod Teaching
