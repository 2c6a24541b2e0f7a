pub mod Decoding
pub mod Stepping
pub mod Running
mod Products
pub mod Encoding
pub mod Reencoding
pub mod Keeping
pub mod Constancy
pub mod Finishing
pub mod Numbers
pub mod Storing
pub mod Framing
