use Rattle.ledger_laws.proofs.JoinedOnSides.{joined_side_is_up}
use Rattle.ledger_laws.proofs.laws.joined_side_is_up.Goals as goal

pub returns : goal.returns
returns c = joined_side_is_up
