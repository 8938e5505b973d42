use Rattle.ledger_laws.proofs.laws.stopped_where_ring_was_low.Goals as goal
use Rattle.ledger_laws.proofs.SendersInOrder.{stopped_where_ring_was_low}

pub returns : goal.returns
returns c = stopped_where_ring_was_low
