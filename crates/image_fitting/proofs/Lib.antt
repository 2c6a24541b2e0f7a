pub mod RoomLemmas
