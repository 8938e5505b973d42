use Rattle.ledger_laws.proofs.UpMeansAgreement.{up_means_agreement}
use Rattle.ledger_laws.proofs.laws.up_means_agreement.Goals as goal

pub returns : goal.returns
returns c = up_means_agreement
