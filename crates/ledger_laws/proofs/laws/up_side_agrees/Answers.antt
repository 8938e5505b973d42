use Rattle.ledger_laws.proofs.JoinedMeansAgreement.{up_side_agrees}
use Rattle.ledger_laws.proofs.laws.up_side_agrees.Goals as goal

pub returns : goal.returns
returns c = up_side_agrees
