pub mod Keys
pub mod Numbers
pub mod Faults
pub mod Tables
pub mod Held
