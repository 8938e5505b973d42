use Rattle.host_memory.proofs.Writes.{reads_elsewhere}
use Rattle.host_memory.proofs.laws.reads_elsewhere.Goals as goal

pub returns : goal.returns
returns c = reads_elsewhere
