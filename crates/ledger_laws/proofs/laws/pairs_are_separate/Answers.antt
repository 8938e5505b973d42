use Rattle.ledger_laws.proofs.laws.pairs_are_separate.Goals as goal
use Rattle.ledger_laws.proofs.PairsAreSeparate.{pairs_are_separate}

pub returns : goal.returns
returns c = pairs_are_separate
