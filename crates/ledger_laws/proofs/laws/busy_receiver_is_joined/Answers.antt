use Rattle.ledger_laws.proofs.JoinedOnSides.{busy_receiver_is_joined}
use Rattle.ledger_laws.proofs.laws.busy_receiver_is_joined.Goals as goal

pub returns : goal.returns
returns c = busy_receiver_is_joined
