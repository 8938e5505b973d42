use Rattle.fabric_core.proofs.refusals.refused_again.Goals as goal
use Rattle.fabric_core.proofs.RefusedAgain.{refused_again}

pub returns : goal.returns
returns c = refused_again
