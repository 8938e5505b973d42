use Rattle.ledger_laws.proofs.laws.copied_in_parts.Goals as goal
use Rattle.ledger_laws.proofs.CopiedInParts.{copied_in_parts}

pub returns : goal.returns
returns c = copied_in_parts
