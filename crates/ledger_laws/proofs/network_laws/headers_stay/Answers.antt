use Rattle.ledger_laws.proofs.WaitingHeaders.{headers_stay}
use Rattle.ledger_laws.proofs.network_laws.headers_stay.Goals as goal

pub returns : goal.returns
returns c = headers_stay
