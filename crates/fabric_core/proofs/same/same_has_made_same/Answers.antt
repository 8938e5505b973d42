use Rattle.fabric_core.proofs.SameFabrics.{same_has_made_same}
use Rattle.fabric_core.proofs.same.same_has_made_same.Goals as goal

pub returns : goal.returns
returns c = same_has_made_same
