use Rattle.ledger_laws.proofs.Bridges.{log_grows_by_items}
use Rattle.ledger_laws.proofs.network_laws.log_grows_by_items.Goals as goal

pub returns : goal.returns
returns c = log_grows_by_items
