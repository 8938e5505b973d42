use Rattle.ledger_laws.proofs.laws.not_ready_where_not_joined.Goals as goal
use Rattle.ledger_laws.proofs.RefusedInOrder.{not_ready_where_not_joined}

pub returns : goal.returns
returns c = not_ready_where_not_joined
