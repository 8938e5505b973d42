use Rattle.ledger_laws.proofs.laws.refusals_change_nothing.Goals as goal
use Rattle.ledger_laws.proofs.RefusalsChangeNothing.{refusals_change_nothing}

pub returns : goal.returns
returns c = refusals_change_nothing
