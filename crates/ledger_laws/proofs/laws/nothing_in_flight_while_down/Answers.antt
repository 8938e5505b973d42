use Rattle.ledger_laws.proofs.NothingWhileDown.{nothing_in_flight_while_down}
use Rattle.ledger_laws.proofs.laws.nothing_in_flight_while_down.Goals as goal

pub returns : goal.returns
returns c = nothing_in_flight_while_down
