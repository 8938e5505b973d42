use Rattle.ledger_laws.proofs.Bridges.{bridges_have_a_log}
use Rattle.ledger_laws.proofs.network_laws.bridges_have_a_log.Goals as goal

pub returns : goal.returns
returns c = bridges_have_a_log
