use Rattle.ledger_laws.proofs.QuietMeansDone.{quiet_means_done}
use Rattle.ledger_laws.proofs.laws.quiet_means_done.Goals as goal

pub returns : goal.returns
returns c = quiet_means_done
