use Rattle.ledger_laws.proofs.ErasedOrigins.{origins_change_nothing}
use Rattle.ledger_laws.proofs.network_laws.origins_change_nothing.Goals as goal

pub returns : goal.returns
returns c = origins_change_nothing
