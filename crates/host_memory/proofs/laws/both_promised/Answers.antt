use Rattle.host_memory.proofs.Pieces.{both_promised}
use Rattle.host_memory.proofs.laws.both_promised.Goals as goal

pub returns : goal.returns
returns c = both_promised
