pub mod GraphLemmas
pub mod KeepLemmas
pub mod SizeLemmas
pub mod ItemLemmas
pub mod Promises
pub mod FormedLemmas
pub mod RoomLemmas
