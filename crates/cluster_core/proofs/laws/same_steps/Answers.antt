use Rattle.cluster_core.proofs.SameClusters.{same_steps}
use Rattle.cluster_core.proofs.laws.same_steps.Goals as goal

pub returns : goal.returns
returns c = same_steps
