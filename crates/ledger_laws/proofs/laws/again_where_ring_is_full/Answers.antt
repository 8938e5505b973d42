use Rattle.ledger_laws.proofs.laws.again_where_ring_is_full.Goals as goal
use Rattle.ledger_laws.proofs.SendersInOrder.{again_where_ring_is_full}

pub returns : goal.returns
returns c = again_where_ring_is_full
