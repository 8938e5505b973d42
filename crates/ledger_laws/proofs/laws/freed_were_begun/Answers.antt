use Rattle.ledger_laws.proofs.FramesWithinMost.{freed_were_begun}
use Rattle.ledger_laws.proofs.laws.freed_were_begun.Goals as goal

pub returns : goal.returns
returns c = freed_were_begun
