use Rattle.ledger_laws.proofs.laws.posted_are_writes.Goals as goal
use Rattle.ledger_laws.proofs.PostedAreWrites.{posted_are_writes}

pub returns : goal.returns
returns c = posted_are_writes
