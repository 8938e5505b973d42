use Rattle.ledger_laws.proofs.Headline.{items_again_where_no_room}
use Rattle.ledger_laws.proofs.network_laws.items_again_where_no_room.Goals as goal

pub returns : goal.returns
returns c = items_again_where_no_room
