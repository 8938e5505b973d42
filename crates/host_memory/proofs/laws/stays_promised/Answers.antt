use Rattle.host_memory.proofs.Pieces.{stays_promised}
use Rattle.host_memory.proofs.laws.stays_promised.Goals as goal

pub returns : goal.returns
returns c = stays_promised
