use Rattle.ledger_laws.proofs.LabelsPostable.{labels_are_postable}
use Rattle.ledger_laws.proofs.laws.labels_are_postable.Goals as goal

pub returns : goal.returns
returns c = labels_are_postable
