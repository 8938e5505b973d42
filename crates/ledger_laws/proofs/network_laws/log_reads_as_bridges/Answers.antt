use Rattle.ledger_laws.proofs.Readings.{log_reads_as_bridges}
use Rattle.ledger_laws.proofs.network_laws.log_reads_as_bridges.Goals as goal

pub returns : goal.returns
returns c = log_reads_as_bridges
