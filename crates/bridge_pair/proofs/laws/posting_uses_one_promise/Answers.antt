use Rattle.bridge_pair.proofs.KeptPromises.{posting_uses_one_promise}
use Rattle.bridge_pair.proofs.laws.posting_uses_one_promise.Goals as goal

pub returns : goal.returns
returns c = posting_uses_one_promise
