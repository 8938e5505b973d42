use Rattle.host_memory.proofs.Pieces.{part_promised}
use Rattle.host_memory.proofs.laws.part_promised.Goals as goal

pub returns : goal.returns
returns c = part_promised
