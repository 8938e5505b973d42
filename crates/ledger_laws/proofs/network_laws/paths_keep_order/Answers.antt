use Rattle.ledger_laws.proofs.Headline.{paths_keep_order}
use Rattle.ledger_laws.proofs.network_laws.paths_keep_order.Goals as goal

pub returns : goal.returns
returns c = paths_keep_order
