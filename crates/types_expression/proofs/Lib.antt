pub mod Choice
pub mod Arguments
pub mod FirstFault
