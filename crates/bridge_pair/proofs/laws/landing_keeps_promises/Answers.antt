use Rattle.bridge_pair.proofs.KeptPromises.{landing_keeps_promises}
use Rattle.bridge_pair.proofs.laws.landing_keeps_promises.Goals as goal

pub returns : goal.returns
returns c = landing_keeps_promises
