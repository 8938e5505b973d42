use Rattle.ledger_laws.proofs.laws.busy_where_left_to_post.Goals as goal
use Rattle.ledger_laws.proofs.RefusedInOrder.{busy_where_left_to_post}

pub returns : goal.returns
returns c = busy_where_left_to_post
