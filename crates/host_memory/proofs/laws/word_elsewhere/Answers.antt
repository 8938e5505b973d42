use Rattle.host_memory.proofs.Writes.{word_elsewhere}
use Rattle.host_memory.proofs.laws.word_elsewhere.Goals as goal

pub returns : goal.returns
returns c = word_elsewhere
