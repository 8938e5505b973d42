use Rattle.ledger_laws.proofs.WaitingHeaders.{waiting_have_headers}
use Rattle.ledger_laws.proofs.network_laws.waiting_have_headers.Goals as goal

pub returns : goal.returns
returns c = waiting_have_headers
