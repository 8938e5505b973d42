use Rattle.bridge_pair.proofs.KeptPromises.{own_writes_keep_promises}
use Rattle.bridge_pair.proofs.laws.own_writes_keep_promises.Goals as goal

pub returns : goal.returns
returns c = own_writes_keep_promises
