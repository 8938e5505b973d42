use Rattle.lane_laws.proofs.LaneLaws.{free_is_room}
use Rattle.lane_laws.proofs.laws.free_is_room.Goals as goal

pub returns : goal.returns
returns c = free_is_room
