use Rattle.register_places.proofs.Rooms.{room_kept}
use Rattle.register_places.proofs.laws.places_keep_room.Goals as goal

pub returns : goal.returns
returns c = λ a low. room_kept a low
