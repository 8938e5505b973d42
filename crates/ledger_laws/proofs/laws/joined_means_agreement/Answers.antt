use Rattle.ledger_laws.proofs.JoinedMeansAgreement.{joined_means_agreement}
use Rattle.ledger_laws.proofs.laws.joined_means_agreement.Goals as goal

pub returns : goal.returns
returns c = joined_means_agreement
