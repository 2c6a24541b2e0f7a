pub mod Scopes
pub mod Passed
pub mod Calls
pub mod Leaves
pub mod Ends
pub mod Bodies
pub mod Laws
