pub mod Rounds
pub mod Sharing
pub mod Totals
pub mod RoomLaws
