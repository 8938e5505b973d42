use Rattle.fabric_core.proofs.KeysLanded.{key_once_landed}
use Rattle.fabric_core.proofs.same.key_once_landed.Goals as goal

pub returns : goal.returns
returns c = key_once_landed
