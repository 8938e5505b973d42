use Rattle.ring_geometry.proofs.Room.{free_is_room}
use Rattle.ring_geometry.proofs.laws.free_is_room.Goals as goal

pub returns : goal.returns
returns c = free_is_room
