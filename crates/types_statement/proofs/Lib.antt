pub mod FirstFault
pub mod ItemLists
pub mod Braces
