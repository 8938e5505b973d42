use Rattle.ledger_laws.proofs.laws.closed_where_closed.Goals as goal
use Rattle.ledger_laws.proofs.RefusedInOrder.{closed_where_closed}

pub returns : goal.returns
returns c = closed_where_closed
