use Rattle.ledger_laws.proofs.Sites.{sites_are_the_ledger}
use Rattle.ledger_laws.proofs.byte_laws.sites_are_the_ledger.Goals as goal

pub returns : goal.returns
returns c = sites_are_the_ledger
