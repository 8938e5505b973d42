use Rattle.std.proofs.Common.{refl}
use Rattle.ledger_model.proofs.examples.network_examples_hold.Goals as goal

pub returns : goal.returns
returns c = (refl, refl, refl, (refl, refl), refl)
