use Rattle.ledger_laws.proofs.laws.laws_hold.Goals as goal
use Rattle.ledger_laws.proofs.AllTogether.{laws_hold}

pub returns : goal.returns
returns c = laws_hold
