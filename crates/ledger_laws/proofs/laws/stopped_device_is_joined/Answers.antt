use Rattle.ledger_laws.proofs.JoinedOnSides.{stopped_device_is_joined}
use Rattle.ledger_laws.proofs.laws.stopped_device_is_joined.Goals as goal

pub returns : goal.returns
returns c = stopped_device_is_joined
