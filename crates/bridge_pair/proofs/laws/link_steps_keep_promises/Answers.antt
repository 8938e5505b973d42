use Rattle.bridge_pair.proofs.KeptPromises.{link_steps_keep_promises}
use Rattle.bridge_pair.proofs.laws.link_steps_keep_promises.Goals as goal

pub returns : goal.returns
returns c = link_steps_keep_promises
