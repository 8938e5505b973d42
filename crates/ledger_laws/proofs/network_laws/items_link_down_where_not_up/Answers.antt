use Rattle.ledger_laws.proofs.Headline.{items_link_down_where_not_up}
use Rattle.ledger_laws.proofs.network_laws.items_link_down_where_not_up.Goals as goal

pub returns : goal.returns
returns c = items_link_down_where_not_up
