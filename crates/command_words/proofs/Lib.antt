pub mod Getters
pub mod Accepted
mod Defining
mod Laws
mod Taking
mod Verbs
