use Rattle.ledger_laws.proofs.Headline.{frames_come_once}
use Rattle.ledger_laws.proofs.network_laws.frames_come_once.Goals as goal

pub returns : goal.returns
returns c = frames_come_once
