use Rattle.ledger_laws.proofs.LabelsOfEntries.{labels_are_of_entries}
use Rattle.ledger_laws.proofs.laws.labels_are_of_entries.Goals as goal

pub returns : goal.returns
returns c = labels_are_of_entries
