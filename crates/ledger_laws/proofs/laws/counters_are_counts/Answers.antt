use Rattle.ledger_laws.proofs.laws.counters_are_counts.Goals as goal
use Rattle.ledger_laws.proofs.CountersAreCounts.{counters_are_counts}

pub returns : goal.returns
returns c = counters_are_counts
