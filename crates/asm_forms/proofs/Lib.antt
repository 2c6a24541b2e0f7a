pub mod RoomLemmas
pub mod SizeLemmas
pub mod LikeLemmas
pub mod FitLemmas
pub mod Formed
