use Rattle.ledger_laws.proofs.MemoriesApart.{stored_pairs_are_separate}
use Rattle.ledger_laws.proofs.byte_laws.stored_pairs_are_separate.Goals as goal

pub returns : goal.returns
returns c = stored_pairs_are_separate
