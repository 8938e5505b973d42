use Rattle.fabric_core.proofs.SameFabrics.{same_keys}
use Rattle.fabric_core.proofs.same.same_keys.Goals as goal

pub returns : goal.returns
returns c = same_keys
