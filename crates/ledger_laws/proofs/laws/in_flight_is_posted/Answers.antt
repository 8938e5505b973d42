use Rattle.ledger_laws.proofs.laws.in_flight_is_posted.Goals as goal
use Rattle.ledger_laws.proofs.FlightOfLog.{in_flight_is_posted}

pub returns : goal.returns
returns c = in_flight_is_posted
