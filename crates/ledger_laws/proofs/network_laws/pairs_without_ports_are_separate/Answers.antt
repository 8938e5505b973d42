use Rattle.ledger_laws.proofs.SeparatePairs.{pairs_without_ports_are_separate}
use Rattle.ledger_laws.proofs.network_laws.pairs_without_ports_are_separate.Goals as goal

pub returns : goal.returns
returns c = pairs_without_ports_are_separate
