use Rattle.ledger_laws.proofs.RingLawHolds.{ring_law_of_receiver}
use Rattle.ledger_laws.proofs.laws.ring_law_of_receiver.Goals as goal

pub returns : goal.returns
returns c = ring_law_of_receiver
