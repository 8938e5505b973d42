use Rattle.ledger_laws.proofs.EntriesFit.{entries_fit_the_ring}
use Rattle.ledger_laws.proofs.laws.entries_fit_the_ring.Goals as goal

pub returns : goal.returns
returns c = entries_fit_the_ring
