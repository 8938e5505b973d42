use Rattle.ledger_laws.proofs.laws.peer_down_where_down_landed.Goals as goal
use Rattle.ledger_laws.proofs.FoundInOrder.{peer_down_where_down_landed}

pub returns : goal.returns
returns c = peer_down_where_down_landed
