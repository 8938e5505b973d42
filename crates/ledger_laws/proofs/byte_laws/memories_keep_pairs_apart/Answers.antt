use Rattle.ledger_laws.proofs.MemoriesApart.{memories_keep_pairs_apart}
use Rattle.ledger_laws.proofs.byte_laws.memories_keep_pairs_apart.Goals as goal

pub returns : goal.returns
returns c = memories_keep_pairs_apart
