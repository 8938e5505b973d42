use Rattle.ledger_laws.proofs.laws.empty_where_nothing_landed.Goals as goal
use Rattle.ledger_laws.proofs.FoundInOrder.{empty_where_nothing_landed}

pub returns : goal.returns
returns c = empty_where_nothing_landed
