use Rattle.ledger_laws.proofs.FramesWithinMost.{receiver_knows_its_frame}
use Rattle.ledger_laws.proofs.laws.receiver_knows_its_frame.Goals as goal

pub returns : goal.returns
returns c = receiver_knows_its_frame
