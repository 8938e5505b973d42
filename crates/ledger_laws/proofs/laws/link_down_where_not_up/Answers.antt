use Rattle.ledger_laws.proofs.LinkDownWhereNotUp.{link_down_where_not_up}
use Rattle.ledger_laws.proofs.laws.link_down_where_not_up.Goals as goal

pub returns : goal.returns
returns c = link_down_where_not_up
