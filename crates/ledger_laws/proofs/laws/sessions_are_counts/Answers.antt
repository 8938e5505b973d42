use Rattle.ledger_laws.proofs.Tallies.{sessions_are_counts}
use Rattle.ledger_laws.proofs.laws.sessions_are_counts.Goals as goal

pub returns : goal.returns
returns c = sessions_are_counts
