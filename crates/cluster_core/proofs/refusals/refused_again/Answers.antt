use Rattle.cluster_core.proofs.RefusedAgain.{refused_again}
use Rattle.cluster_core.proofs.refusals.refused_again.Goals as goal

pub returns : goal.returns
returns c = refused_again
