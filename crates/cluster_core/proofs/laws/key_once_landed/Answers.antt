use Rattle.cluster_core.proofs.SameClusters.{key_once_landed}
use Rattle.cluster_core.proofs.laws.key_once_landed.Goals as goal

pub returns : goal.returns
returns c = key_once_landed
