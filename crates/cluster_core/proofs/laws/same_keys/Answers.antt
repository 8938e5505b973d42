use Rattle.cluster_core.proofs.SameClusters.{same_keys}
use Rattle.cluster_core.proofs.laws.same_keys.Goals as goal

pub returns : goal.returns
returns c = same_keys
