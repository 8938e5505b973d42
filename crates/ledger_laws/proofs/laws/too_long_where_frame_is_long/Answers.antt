use Rattle.ledger_laws.proofs.laws.too_long_where_frame_is_long.Goals as goal
use Rattle.ledger_laws.proofs.SendersInOrder.{too_long_where_frame_is_long}

pub returns : goal.returns
returns c = too_long_where_frame_is_long
