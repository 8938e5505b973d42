use Rattle.ledger_laws.proofs.laws.again_where_no_room.Goals as goal
use Rattle.ledger_laws.proofs.AgainWhereNoRoom.{again_where_no_room}

pub returns : goal.returns
returns c = again_where_no_room
