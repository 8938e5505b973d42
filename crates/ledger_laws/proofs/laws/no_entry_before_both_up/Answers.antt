use Rattle.ledger_laws.proofs.FreshLanes.{no_entry_before_both_up}
use Rattle.ledger_laws.proofs.laws.no_entry_before_both_up.Goals as goal

pub returns : goal.returns
returns c = no_entry_before_both_up
