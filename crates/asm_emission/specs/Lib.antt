pub mod View
pub mod Reaching
pub mod Fitting
pub mod Passing
