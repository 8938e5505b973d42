use Rattle.ledger_laws.proofs.laws.every_log_is_in_order.Goals as goal
use Rattle.ledger_laws.proofs.FramesInOrder.{every_log_is_in_order}

pub returns : goal.returns
returns c = every_log_is_in_order
