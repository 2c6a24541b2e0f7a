pub mod FrameLemmas
pub mod RoomLemmas
