use Rattle.cluster_core.proofs.SameClusters.{one_answer}
use Rattle.cluster_core.proofs.laws.one_answer.Goals as goal

pub returns : goal.returns
returns c = one_answer
